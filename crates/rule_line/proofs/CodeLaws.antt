-- What the proofs of the functions that read names, lines and shapes cite. Assumes nothing.
use Prim.Native.Nat.{ℕ, zero, suc, ◌+◌, ◌≤◌, ◌<◌}
use native.Mathlib.Omega.{arith}
use native.Mathlib.Numerals.{add-one}
use mathlib.Core.Path.{◌≡◌, refl, sym, ap, ap₂, subst, ◌∙◌}
use mathlib.Core.Bool.{Bool, true, false, ◌&&◌, and-false}
use mathlib.Core.List.{List, [], ◌∷◌, ◌++◌, map, append_assoc, append-nil}
use lib.Dec.{eqb, ltb}
use lib.ListN.{length, get_or, take, drop, set, length-set, length-take, length-drop, length-append}
use lib.Seq.{length-take-le, take-suc-set}
use lib.Pointwise.{pointwise}
use borrow.Author.Tests.{eqb-true, eq-eqb, ne_eqb, lt-ltb, le-ltb}
use Rattle.event.specs.Leading.{leading}
use Rattle.event.specs.Text.{not_newline}
use Rattle.event.proofs.Tails.{tail, tail_is, tail_length}
use Rattle.event.proofs.LeadingLaws.{leading_found}
use Rattle.replacement.specs.Pieces.{Piece, own, named, name_length, pieces_from, pieces, shape_of}
use Rattle.replacement.proofs.PieceLaws.{of_byte, at_open, skipped}
use Rattle.replacement.proofs.NameLaws.{name_found, both}
use Rattle.rule_line.specs.LineComputed.{name_of, body_of, rule_of, is_line}
use Rattle.rule_line.specs.Coding.{FieldsOf, code_of, origin_of, Taken, Cut, pushed}
use Rattle.rule_line.specs.Passed.{PassedLine}
use Rattle.rule_line.specs.declared.line.LineFields.{LineFields}
use Rattle.rule_line.specs.declared.shape.Origin.{Origin}
use Rattle.rule_line.specs.declared.shape.Origin.TheVariants.{Own}
use Rattle.rule_line.specs.declared.shape.PieceRead.{PieceRead}
use Rattle.rule_line.specs.declared.shape.Shape.{Shape}
use Rattle.rule_line.proofs.LineNames.{unlike}

-- ---- one line
pub name_fits : (c : ℕ) → 0 < c → (x : List ℕ) (k : ℕ) → k ≡ name_length c x → 0 < k → (k < length x) × (k ≤ 12)
name_fits c p x zero e h = absurd (omega arith)
name_fits c p x (suc k) e h =
    let f = name_found c p x k (sym e) in
    let l : suc k ≤ length x = short in
    let w = f.name.most in
    let g = length-take-le (suc k) x l in
    (omega (arith, ap length f.whole, length-append (take (suc k) x) (c ∷ drop (suc (suc k)) x)), omega arith)
  where
    short : suc k ≤ length x
    short =
        let f = name_found c p x k (sym e) in
        let w = ap length f.whole ∙ length-append (take (suc k) x) (c ∷ drop (suc (suc k)) x) in
        omega (arith, length-take (suc k) x, length-drop (suc (suc k)) x)

-- `R` and a tab stand at the front, or not
tag_of : (s : List ℕ) → pointwise eqb (take 2 s) (82 ∷ 9 ∷ []) ≡ true → (get_or s 0 0 ≡ 82) × (get_or s 1 0 ≡ 9)
tag_of [] e = absurd (unlike e refl)
tag_of (b ∷ []) e = absurd (unlike (both (eqb b 82) false e).1 refl)
tag_of (b ∷ c ∷ s) e =
    let f = both (eqb b 82) (eqb c 9 && true) e in
    (eqb-true b 82 f.0, eqb-true c 9 (both (eqb c 9) true f.1).0)

pub no_tag : (s : List ℕ) → pointwise eqb (take 2 s) (82 ∷ 9 ∷ []) ≡ false → is_line s ≡ false
unfolding is_line
no_tag [] e = refl
no_tag (b ∷ []) e = and-false (eqb b 82)
no_tag (b ∷ c ∷ s) e = go (eqb b 82) (eqb c 9) e _
  where
    go : (p q : Bool) → (p && (q && true)) ≡ false → (r : Bool) → (p && (q && r)) ≡ false
    go false q e r = refl
    go true false e r = refl
    go true true e r = absurd (unlike refl e)

-- what follows them
module _ (s : List ℕ) {x : List ℕ} (p : pointwise eqb (take 2 s) (82 ∷ 9 ∷ []) ≡ true) (d : x ≡ drop 2 s) where
  name_is : (n : ℕ) → n ≡ name_length 9 x → name_of s ≡ n
  name_is n e = sym (e ∙ ap (name_length 9) d)

  pub no_name : name_length 9 x ≡ 0 → is_line s ≡ false
  unfolding is_line
  no_name h = simp (name_is 0 (sym h), and-false)

  -- the name, of length n, and what follows the second tab
  module _ (n : ℕ) (h : n ≡ name_length 9 x) (some : 0 < n) where
    pub past_name : n + 1 ≤ length x
    past_name = omega (arith, (name_fits 9 (omega arith) x n h some).0)

    body_is : body_of s ≡ tail (n + 1) x
    body_is =
        ap₂ (λ (k : ℕ) (y : List ℕ). drop (suc k) y) (name_is n h) (sym d) ∙ ap (λ (k : ℕ). drop k x) (sym (add-one n)) ∙ sym (tail_is (n + 1) x)

    module _ (e : ℕ) (g : e ≡ leading not_newline (tail (n + 1) x)) where
      pub end_within : e ≤ length (tail (n + 1) x)
      end_within = omega (arith, (leading_found not_newline (tail (n + 1) x)).within)

      rule_is : rule_of s ≡ e
      rule_is = ap (leading not_newline) body_is ∙ sym g

      pub no_end : e ≡ length (tail (n + 1) x) → is_line s ≡ false
      unfolding is_line
      no_end l = simp (ap₂ ltb rule_is (ap length body_is), le-ltb e (length (tail (n + 1) x)) (omega arith), and-false)

      pub formed : (e ≡ length (tail (n + 1) x) → ⊥) → (f : LineFields) → f.name.now ≡ take (name_length 9 x) x
          → f.rule.now ≡ take e (tail (n + 1) x) → f.rest.now ≡ tail (e + 1) (tail (n + 1) x) → FieldsOf s f
      unfolding is_line
      formed l f a b c =
          let t = tag_of s p in
          let z : e < length (tail (n + 1) x) = omega (arith, end_within) in
          record {
            line = simp (eq-eqb (get_or s 0 0) 82 t.0, eq-eqb (get_or s 1 0) 9 t.1)
                (ap₂ (λ (i j : ℕ). ltb 0 i && ltb j (length (body_of s))) (name_is n h) rule_is
                ∙ ap (λ (y : List ℕ). ltb 0 n && ltb e (length y)) body_is
                ∙ rw (lt-ltb 0 n some, lt-ltb e (length (tail (n + 1) x)) z));
            name = a ∙ ap₂ (λ (k : ℕ) (y : List ℕ). take k y) (sym h ∙ sym (name_is n h)) d;
            rule = b ∙ ap₂ (λ (k : ℕ) (y : List ℕ). take k y) (sym rule_is) (sym body_is);
            rest = c ∙ tail_is (e + 1) (tail (n + 1) x)
                ∙ ap₂ (λ (k : ℕ) (y : List ℕ). drop k y) (add-one e ∙ ap suc (sym rule_is)) (sym body_is);
            shorter = omega (arith, ap length c, tail_length (e + 1) (tail (n + 1) x), tail_length (n + 1) x, past_name, ap length d, length-drop 2 s);
          }

-- ---- the piece at the front
module _ (lines : List PassedLine) where
  alone : (b : ℕ) (x : List ℕ) → pieces (b ∷ x) ≡ own b ∷ pieces x → Taken lines (b ∷ x) (record { byte = b; origin = Own; length = 1 })
  alone b x e = record { piece = own b; first = e; code = refl; origin = refl; some = omega arith; within = omega arith }

  pub taken_byte : (s : List ℕ) → 1 ≤ length s → (get_or s 0 0 ≡ 60 → ⊥) → Taken lines s (record { byte = get_or s 0 0; origin = Own; length = 1 })
  taken_byte [] h g = absurd (omega arith)
  taken_byte (b ∷ x) h g = alone b x (of_byte b x (ne_eqb b 60 g))

  pub taken_open : (s : List ℕ) → 1 ≤ length s → get_or s 0 0 ≡ 60 → name_length 62 (tail 1 s) ≡ 0
      → Taken lines s (record { byte = get_or s 0 0; origin = Own; length = 1 })
  taken_open [] h e g = absurd (omega arith)
  taken_open (b ∷ x) h e g =
      let z : name_length 62 x ≡ 0 = ap (name_length 62) (sym (tail_is 1 (b ∷ x))) ∙ g in
      subst (λ (c : ℕ). Taken lines (c ∷ x) (record { byte = c; origin = Own; length = 1 })) (sym e) (alone 60 x (at_open x 0 z))

  pub taken_name : (s n : List ℕ) → 1 ≤ length s → get_or s 0 0 ≡ 60 → 0 < name_length 62 (tail 1 s)
      → n ≡ take (name_length 62 (tail 1 s)) (tail 1 s) → length n ≡ name_length 62 (tail 1 s) → (o : Origin) → o ≡ origin_of lines (named n)
      → Taken lines s (record { byte = 49; origin = o; length = length n + 2 })
  taken_name [] n h e l w g o i = absurd (omega arith)
  taken_name (b ∷ x) n h e l w g o i = go (name_length 62 (tail 1 (b ∷ x))) refl
    where
      go : (k : ℕ) → k ≡ name_length 62 (tail 1 (b ∷ x)) → Taken lines (b ∷ x) (record { byte = 49; origin = o; length = length n + 2 })
      go zero j = absurd (omega arith)
      go (suc k) j =
          let z : name_length 62 x ≡ suc k = ap (name_length 62) (sym (tail_is 1 (b ∷ x))) ∙ sym j in
          let y : length n + 2 ≡ suc (suc (suc k)) = omega arith in
          let f = name_fits 62 (omega arith) x (suc k) (sym z) (omega arith) in
          let u : n ≡ take (suc k) x = w ∙ ap₂ (λ (i : ℕ) (y : List ℕ). take i y) (sym j) (tail_is 1 (b ∷ x)) in
          subst (λ (c : ℕ). Taken lines (c ∷ x) (record { byte = 49; origin = o; length = length n + 2 })) (sym e) (record {
            piece = named n;
            first = at_open x (suc k) z ∙ ap₂ (λ (m : List ℕ) (ps : List Piece). named m ∷ ps) (sym u)
                (skipped x (suc (suc k)) ∙ ap (λ (j : ℕ). pieces (drop j (60 ∷ x))) (sym y));
            code = refl;
            origin = i;
            some = omega arith;
            within = omega (arith, f.0);
          })

-- ---- the loop that cuts
pub record Cutting (lines : List PassedLine) (s : List ℕ) (shape : Shape) (rest : List ℕ) : Type 0 where
  pub passed : List Piece
  pub all : pieces s ≡ passed ++ pieces rest
  pub few : shape.n + length rest ≤ length s
  pub bytes : take shape.n shape.bytes ≡ shape_of passed
  pub originated : take shape.n shape.origins ≡ map (origin_of lines) passed
  pub long_bytes : length shape.bytes ≡ 255
  pub long_origins : length shape.origins ≡ 255

pub cutting_start : (lines : List PassedLine) (s : List ℕ) (shape : Shape) → shape.n ≡ 0 → length shape.bytes ≡ 255 → length shape.origins ≡ 255
    → Cutting lines s shape s
unfolding shape_of
cutting_start lines s shape e h g =
    record {
      passed = [];
      all = refl;
      few = omega arith;
      bytes = ap (λ (n : ℕ). take n shape.bytes) e;
      originated = ap (λ (n : ℕ). take n shape.origins) e;
      long_bytes = h;
      long_origins = g;
    }

shape_snoc : (ps : List Piece) (p : Piece) → shape_of (ps ++ p ∷ []) ≡ shape_of ps ++ code_of p ∷ []
unfolding shape_of
shape_snoc [] (own b) = refl
shape_snoc [] (named n) = refl
shape_snoc (own b ∷ ps) p = ap (λ (x : List ℕ). b ∷ x) (shape_snoc ps p)
shape_snoc (named n ∷ ps) p = ap (λ (x : List ℕ). 49 ∷ x) (shape_snoc ps p)

map_snoc : {A B : Type 0} (f : A → B) (xs : List A) (x : A) → map f (xs ++ x ∷ []) ≡ map f xs ++ f x ∷ []
map_snoc f [] x = refl
map_snoc f (y ∷ xs) x = ap (λ (z : List _). f y ∷ z) (map_snoc f xs x)

one_more : {A : Type 0} (l : List A) (n : ℕ) (b c : A) (x : List A) → n < length l → take n l ≡ x → b ≡ c → take (n + 1) (set l n b) ≡ x ++ c ∷ []
one_more {A} l n b c x h e f =
    ap (λ (k : ℕ). take k (set l n b)) (add-one n) ∙ take-suc-set l n b h ∙ ap₂ (λ (y : List A) (d : A). y ++ d ∷ []) e f

module _ {lines : List PassedLine} {s : List ℕ} {shape : Shape} {rest : List ℕ} (c : Cutting lines s shape rest) where
  pub room : length s ≤ 255 → 1 ≤ length rest → shape.n < 255
  room h g = omega (arith, c.few)

  pub cutting_on : (q : PieceRead) {shape' : Shape} → length s ≤ 255 → 1 ≤ length rest → Taken lines rest q → shape' ≡ pushed shape q
      → Cutting lines s shape' (tail q.length rest)
  cutting_on q h l t z =
      let n = room h l in
      let w = c.few in
      let x = c.long_bytes in
      let y = c.long_origins in
      subst (λ (z : Shape). Cutting lines s z (tail q.length rest)) (sym z) (record {
        passed = c.passed ++ t.piece ∷ [];
        all = c.all ∙ ap (λ (z : List Piece). c.passed ++ z) (t.first ∙ ap (λ (z : List ℕ). t.piece ∷ pieces z) (sym (tail_is q.length rest)))
            ∙ sym (append_assoc c.passed (t.piece ∷ []) _);
        few = omega (arith, t.some, t.within, tail_length q.length rest);
        bytes = one_more shape.bytes shape.n q.byte (code_of t.piece) (shape_of c.passed) (omega arith) c.bytes t.code
            ∙ sym (shape_snoc c.passed t.piece);
        originated = one_more shape.origins shape.n q.origin (origin_of lines t.piece) (map (origin_of lines) c.passed) (omega arith) c.originated t.origin
            ∙ sym (map_snoc (origin_of lines) c.passed t.piece);
        long_bytes = length-set shape.bytes shape.n q.byte ∙ x;
        long_origins = length-set shape.origins shape.n q.origin ∙ y;
      })

  pub cutting_ends : length rest ≡ 0 → Cut lines s shape
  unfolding pieces_from
  cutting_ends h =
      let w = c.few in
      let e : pieces s ≡ c.passed = c.all ∙ ap (λ (z : List ℕ). c.passed ++ pieces z) (nothing rest h) ∙ append-nil c.passed in
      record { few = omega arith; bytes_long = c.long_bytes; origins_long = c.long_origins; bytes = c.bytes ∙ ap shape_of (sym e); originated = c.originated ∙ ap (map (origin_of lines)) (sym e) }
    where
      nothing : (x : List ℕ) → length x ≡ 0 → x ≡ []
      nothing [] e = refl
      nothing (b ∷ x) e = absurd (omega arith)
