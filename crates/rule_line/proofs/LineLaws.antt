-- A line of the form is found exactly where one stands. Assumes nothing.
use Prim.Native.Nat.{ℕ, zero, suc, ◌≤◌, ◌<◌}
use native.Mathlib.Omega.{arith}
use mathlib.Core.Path.{◌≡◌, refl, sym, ap, ap₂, subst, ◌∙◌}
use mathlib.Core.Bool.{Bool, true, ◌&&◌, not}
use mathlib.Core.List.{List, [], ◌∷◌, ◌++◌}
use lib.Dec.{ltb, eqb}
use lib.ListN.{length, get_or, take, drop, take-append-drop, length-append}
use lib.Seq.{drop-cons, take-append_seam}
use borrow.Author.Tests.{ltb-true, lt-ltb, eqb-true, not-true, not-false}
use Rattle.event.specs.Leading.{leading}
use Rattle.event.specs.Text.{not_newline}
use Rattle.event.proofs.LeadingLaws.{leading_found, leading_up_to}
use Rattle.replacement.specs.Replaced.{is_lower, Name}
use Rattle.replacement.specs.Pieces.{name_length}
use Rattle.replacement.proofs.NameLaws.{name_ahead, NameFound, name_found, past, both}
use Rattle.rule_line.specs.LineMeaning.{OneLine, line_of, Begins}
use Rattle.rule_line.specs.LineComputed.{name_of, body_of, rule_of, is_line}

-- ---- found lines are lines
one_line : (k : ℕ) (s : List ℕ) → ((i : ℕ) → i < k → not_newline (get_or s i 0) ≡ true) → k ≤ length s → OneLine (take k s)
one_line zero s h l = tt
one_line (suc k) [] h l = tt
one_line (suc k) (b ∷ s) h l = (not-true (eqb b 10) (h 0 (omega arith)), one_line k s (λ i g. h (suc i) (omega arith)) (omega arith))

ended : (s : List ℕ) → leading not_newline s < length s → s ≡ take (leading not_newline s) s ++ 10 ∷ drop (suc (leading not_newline s)) s
ended s h =
    let e = leading not_newline s in
    let z = eqb-true (get_or s e 0) 10 (not-false (eqb (get_or s e 0) 10) ((leading_found not_newline s).there h)) in
    sym (take-append-drop e s) ∙ ap (λ (x : List ℕ). take e s ++ x) (drop-cons s e 0 h ∙ ap (λ (b : ℕ). b ∷ drop (suc e) s) z)

headed : (text : List ℕ) → get_or text 0 0 ≡ 82 → get_or text 1 0 ≡ 9 → text ≡ 82 ∷ 9 ∷ drop 2 text
headed [] p q = absurd (omega arith)
headed (b ∷ []) p q = absurd (omega arith)
headed (b ∷ c ∷ x) p q = ap₂ (λ (m n : ℕ). m ∷ n ∷ x) p q

found_name : (x : List ℕ) (k : ℕ) → name_length 9 x ≡ k → 0 < k → NameFound 9 x k
found_name x zero e h = absurd (omega arith)
found_name x (suc k) e h = name_found 9 (omega arith) x k e

pub line_found : (text : List ℕ) → is_line text ≡ true
    → Begins text (take (name_of text) (drop 2 text)) (take (rule_of text) (body_of text)) (drop (suc (rule_of text)) (body_of text))
unfolding is_line
line_found text e =
    let a = both (eqb (get_or text 0 0) 82) _ e in
    let b = both (eqb (get_or text 1 0) 9) _ a.1 in
    let c = both (ltb 0 (name_of text)) (ltb (rule_of text) (length (body_of text))) b.1 in
    let x = drop 2 text in
    let f = found_name x (name_length 9 x) refl (ltb-true 0 (name_of text) c.0) in
    let l = leading_found not_newline (body_of text) in
    record {
      name = f.name;
      rule = one_line (rule_of text) (body_of text) l.before l.within;
      whole = headed text (eqb-true _ _ a.0) (eqb-true _ _ b.0)
          ∙ ap (λ (y : List ℕ). 82 ∷ 9 ∷ y) (f.whole ∙ ap (λ (y : List ℕ). take (name_of text) x ++ 9 ∷ y)
          (ended (body_of text) (ltb-true _ _ c.1)));
    }

-- the newline that ends a line's rule stands in the text
pub rule_ends : (text : List ℕ) → is_line text ≡ true → rule_of text < length (body_of text)
unfolding is_line
rule_ends text e =
    let a = both (eqb (get_or text 0 0) 82) _ e in
    let b = both (eqb (get_or text 1 0) 9) _ a.1 in
    ltb-true _ _ (both (ltb 0 (name_of text)) (ltb (rule_of text) (length (body_of text))) b.1).1

-- ---- lines are found
pub record Split (text n s more : List ℕ) : Type 0 where
  pub line : is_line text ≡ true
  pub name : take (name_of text) (drop 2 text) ≡ n
  pub rule : take (rule_of text) (body_of text) ≡ s
  pub rest : drop (suc (rule_of text)) (body_of text) ≡ more

leads : (s more : List ℕ) → OneLine s → leading not_newline (s ++ 10 ∷ more) ≡ length s
leads s more h = leading_up_to not_newline OneLine (λ b u a. (ap not a.0, a.1)) 10 refl s more h

split : (n s more : List ℕ) → Name n → OneLine s → Split (line_of n s more) n s more
unfolding is_line is_lower
split n s more a o =
    let y = s ++ 10 ∷ more in
    let x = n ++ 9 ∷ y in
    let e : name_length 9 x ≡ length n = name_ahead 9 refl n y a in
    let d : body_of (line_of n s more) ≡ y = ap (λ (k : ℕ). drop (suc k) x) e ∙ past 9 n y in
    let r : rule_of (line_of n s more) ≡ length s = ap (leading not_newline) d ∙ leads s more o in
    let p = lt-ltb 0 (length n) a.least in
    let q = lt-ltb (length s) (length y) (omega (arith, length-append s (10 ∷ more))) in
    record {
      line = ap (λ (k : ℕ). ltb 0 k && ltb (rule_of (line_of n s more)) (length (body_of (line_of n s more)))) e
          ∙ ap (λ (b : Bool). b && ltb (rule_of (line_of n s more)) (length (body_of (line_of n s more)))) p
          ∙ ap₂ (λ (i : ℕ) (z : List ℕ). ltb i (length z)) r d ∙ q;
      name = ap (λ (k : ℕ). take k x) e ∙ take-append_seam n (9 ∷ y);
      rule = ap₂ (λ (i : ℕ) (z : List ℕ). take i z) r d ∙ take-append_seam s (10 ∷ more);
      rest = ap₂ (λ (i : ℕ) (z : List ℕ). drop (suc i) z) r d ∙ past 10 s more;
    }

pub line_split : {text n s more : List ℕ} → Begins text n s more → Split text n s more
line_split {text} {n} {s} {more} b = subst (λ (x : List ℕ). Split x n s more) (sym b.whole) (split n s more b.name b.rule)
