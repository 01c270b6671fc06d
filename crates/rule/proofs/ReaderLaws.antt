-- Laws of the recursive reader: how what a level's calls do makes up what the level does. Assumes nothing.
use Prim.Native.Nat.{ℕ, zero, suc, ◌+◌, ◌-◌, ◌≤◌, ◌<◌}
use native.Mathlib.Omega.{arith}
use mathlib.Core.Path.{◌≡◌, refl, sym, ap, subst₂, ◌∙◌}
use mathlib.Core.List.{List, [], ◌∷◌}
use mathlib.Core.Bool.{Bool, true, false, cond}
use lib.Seq.{drop-drop}
use lib.ListN.{length, get_or, drop, length-drop}
use lib.Dec.{eqb, ltb}
use borrow.Author.Tests.{lt-ltb, le-ltb, eq-eqb, ne_eqb}
use Rattle.event.proofs.Tails.{tail, tail_is}
use Rattle.expression.specs.Bytes.{is_start}
use Rattle.expression.specs.Leaves.{leaf_at}
use Rattle.expression.specs.declared.Leaf.{Leaf}
use Rattle.expression.proofs.LeafLaws.{leaf_fits}
use Rattle.expression.specs.Parse.{Call, alt, alt_rest, conj, conj_rest, seq, seq_rest, pre, post, post_rest, atom, rank, measure, parse}
use Rattle.expression.specs.declared.Kind.{Kind}
use Rattle.expression.specs.declared.Kind.TheVariants.{Union, Intersection, Concatenation, Complement, Star}
use Rattle.expression.proofs.Texts.{start_some}
use Rattle.rule.specs.Reader.{State, Done, add, pushed, moved, least}

-- one byte more
abbrev skipped : State → State
skipped r = moved r 1

abbrev run : ℕ → Call → List ℕ → State → State
run f l s q = parse add f l s q

rank_some : (l : Call) → 0 < rank l
rank_some alt = omega arith
rank_some alt_rest = omega arith
rank_some conj = omega arith
rank_some conj_rest = omega arith
rank_some seq = omega arith
rank_some seq_rest = omega arith
rank_some pre = omega arith
rank_some post = omega arith
rank_some post_rest = omega arith
rank_some atom = omega arith

-- a level has read what one step of `parse` gives
done : (l : Call) (s : List ℕ) (r z : State) → r.1 + least l s ≤ z.1 → z.1 ≤ r.1 + length s
    → ((f : ℕ) → measure l s ≤ suc f → z ≡ run (suc f) l s r) → Done l s r z
done l s r z a b h = record { low = a; high = b; same = go }
  where
    go : (f : ℕ) → measure l s ≤ f → z ≡ run f l s r
    go zero n = absurd (omega (arith, rank_some l))
    go (suc f) n = h f n

-- ---- the first byte
-- the first byte is x, and x was tested for b
seen : (s : List ℕ) {x b : ℕ} → x ≡ get_or s 0 0 → x ≡ b → 0 < b → (0 < length s) × (eqb (get_or s 0 0) b ≡ true)
seen s {x} {b} e h p = (there s (sym e ∙ h), eq-eqb _ _ (sym e ∙ h))
  where
    there : (s : List ℕ) → get_or s 0 0 ≡ b → 0 < length s
    there [] e = omega arith
    there (x ∷ s) e = omega arith

unseen : (s : List ℕ) {x b : ℕ} → x ≡ get_or s 0 0 → (x ≡ b → ⊥) → eqb (get_or s 0 0) b ≡ false
unseen s e h = ne_eqb _ _ (λ g. h (e ∙ g))

pub first_there : (s : List ℕ) {x b : ℕ} → x ≡ get_or s 0 0 → x ≡ b → 0 < b → 0 < length s
first_there s e h p = (seen s e h p).0

-- the first byte of the rest from n on
first_is : (n : ℕ) (s : List ℕ) → get_or (tail n s) 0 0 ≡ get_or (drop n s) 0 0
first_is n s = ap (λ (l : List ℕ). get_or l 0 0) (tail_is n s)

-- the same of the rest from n on
seen_at : (s : List ℕ) (n : ℕ) {x b : ℕ} → x ≡ get_or (tail n s) 0 0 → x ≡ b → 0 < b
    → (n < length s) × (eqb (get_or (drop n s) 0 0) b ≡ true)
seen_at s n e h p =
    let t = seen (drop n s) (e ∙ first_is n s) h p in
    (omega (arith, length-drop n s, t.0), t.1)

unseen_at : (s : List ℕ) (n : ℕ) {x b : ℕ} → x ≡ get_or (tail n s) 0 0 → (x ≡ b → ⊥) → eqb (get_or (drop n s) 0 0) b ≡ false
unseen_at s n e h = unseen (drop n s) (e ∙ first_is n s) h

-- and of the test for a byte with which an operand begins
start_at : (s : List ℕ) (n : ℕ) {x : ℕ} {t u : Bool} → x ≡ get_or (tail n s) 0 0 → t ≡ is_start x → t ≡ u
    → is_start (get_or (drop n s) 0 0) ≡ u
start_at s n e h g = sym (ap is_start (e ∙ first_is n s)) ∙ sym h ∙ g

started_at : (s : List ℕ) (n : ℕ) {x : ℕ} {t : Bool} → x ≡ get_or (tail n s) 0 0 → t ≡ is_start x → t ≡ true
    → (n < length s) × (is_start (get_or (drop n s) 0 0) ≡ true)
started_at s n e h g =
    let t = start_at s n e h g in
    (omega (arith, length-drop n s, start_some (drop n s) t), t)

-- two names of one state
pub same_offset : {x y : State} → x ≡ y → x.1 ≡ y.1
same_offset e = ap (λ (r : State). r.1) e

-- a call on the rest, in a state that is written another way
on_tail : (l : Call) (n : ℕ) (s : List ℕ) {x y q : State} → x ≡ y → Done l (tail n s) x q → Done l (drop n s) y q
on_tail l n s {x} {y} {q} e d = subst₂ (λ (t : List ℕ) (r : State). Done l t r q) (tail_is n s) e d

past_sign : (l : Call) (n : ℕ) (s : List ℕ) {x y q : State} → x ≡ y → Done l (tail (n + 1) s) x q → Done l (drop 1 (drop n s)) y q
past_sign l n s {x} {y} {q} e d =
    subst₂ (λ (t : List ℕ) (r : State). Done l t r q) (tail_is (n + 1) s ∙ sym (drop-drop 1 n s)) e d

-- ---- the levels that read with another level, and go on
module _ (W F R : Call)
    (step : (f : ℕ) (s : List ℕ) (q : State) → run (suc f) W s q ≡ run f R (drop ((run f F s q).1 - q.1) s) (run f F s q))
    (rf : rank F < rank W) (rr : rank R < rank W) (lw : (s : List ℕ) → least W s ≤ least F s) where
  goes_on : (s : List ℕ) (r q z : State) → Done F s r q → Done R (drop (q.1 - r.1) s) q z → Done W s r z
  goes_on s r q z a b =
      let n = length-drop (q.1 - r.1) s in
      let w = lw s in
      done W s r z (omega (arith, a.low, b.low)) (omega (arith, a.high, b.high)) (λ f h.
      b.same f (omega arith)
      ∙ ap (λ (p : State). run f R (drop (p.1 - r.1) s) p) (a.same f (omega arith))
      ∙ sym (step f s r))

alt_done : (s : List ℕ) (r q z : State) → Done conj s r q → Done alt_rest (drop (q.1 - r.1) s) q z → Done alt s r z
unfolding parse
alt_done = goes_on alt conj alt_rest (λ f s q. refl) (omega arith) (omega arith) (λ s. omega arith)

conj_done : (s : List ℕ) (r q z : State) → Done seq s r q → Done conj_rest (drop (q.1 - r.1) s) q z → Done conj s r z
unfolding parse
conj_done = goes_on conj seq conj_rest (λ f s q. refl) (omega arith) (omega arith) (λ s. omega arith)

seq_done : (s : List ℕ) (r q z : State) → Done pre s r q → Done seq_rest (drop (q.1 - r.1) s) q z → Done seq s r z
unfolding parse
seq_done = goes_on seq pre seq_rest (λ f s q. refl) (omega arith) (omega arith) (λ s. omega arith)

post_done : (s : List ℕ) (r q z : State) → Done atom s r q → Done post_rest (drop (q.1 - r.1) s) q z → Done post s r z
unfolding parse
post_done = goes_on post atom post_rest (λ f s q. refl) (omega arith) (omega arith) (λ s. omega arith)

-- ---- the loops
-- A loop that began at n₀ in the state q₀ has come to n in the state q:
-- what the rest R makes of q there, it makes of q₀ where the loop began.
pub record Upto (R : Call) (s : List ℕ) (start : ℕ) (q₀ : State) (n₀ : ℕ) (q : State) (n : ℕ) : Type 0 where
  pub within : n ≤ length s
  pub place : q.1 ≡ start + n
  pub rest : (z : State) → Done R (drop n s) q z → Done R (drop n₀ s) q₀ z

-- the loop's test passes only of a byte that is there
module _ {R : Call} {s : List ℕ} {start : ℕ} {q₀ : State} {n₀ : ℕ} {q : State} {n x : ℕ} where
  pub sign_there : Upto R s start q₀ n₀ q n → {b : ℕ} → x ≡ get_or (tail n s) 0 0 → x ≡ b → 0 < b → n + 1 ≤ length s
  sign_there i e h p = omega (arith, (seen_at s n e h p).0)

  pub start_there : Upto R s start q₀ n₀ q n → {t : Bool} → x ≡ get_or (tail n s) 0 0 → t ≡ is_start x → t ≡ true → n + 1 ≤ length s
  start_there i e h g = omega (arith, (started_at s n e h g).0)

-- a turn of a loop: from q at n to y, which stands where its offset says
turn : (R : Call) (s : List ℕ) (start : ℕ) (q₀ : State) (n₀ : ℕ) (q : State) (n : ℕ) (y w : State) (k : ℕ)
    → Upto R s start q₀ n₀ q n → y ≡ w → w.1 ≡ q.1 + k → n + k ≤ length s
    → ((z : State) → Done R (drop k (drop n s)) w z → Done R (drop n s) q z) → Upto R s start q₀ n₀ y (y.1 - start)
turn R s start q₀ n₀ q n y w k i g o l law =
    let b = same_offset g in
    let p = i.place in
    let m : n + k ≡ y.1 - start = omega arith in
    record {
      within = omega arith;
      place = omega arith;
      rest = λ z c. i.rest z (law z
          (subst₂ (λ (u : List ℕ) (r : State). Done R u r z) (sym (drop-drop k n s ∙ ap (λ (j : ℕ). drop j s) m)) g c));
    }

-- A loop over right sides of nodes K: where the test P passes of s, F reads one from `E s` on, in the state `B r`.
module _ (R F : Call) (K : Kind) (P : List ℕ → Type 0) (E : List ℕ → List ℕ) (B : State → State)
    (step : (f : ℕ) (s : List ℕ) (r : State) → P s → run (suc f) R s r ≡ (let p = run f F (E s) (B r) in
    run f R (drop (p.1 - r.1) s) (add p.0 r.1 K, p.1)))
    (fuel : (s : List ℕ) → 0 < length s → measure F (E s) < measure R s) (lr : (s : List ℕ) → least R s ≤ 0)
    (moves : (s : List ℕ) (r q : State) → 0 < length s → Done F (E s) (B r) q
    → (r.1 < q.1) × (q.1 ≤ r.1 + length s))
  where
    more : (s : List ℕ) (r q z : State) → 0 < length s → P s → Done F (E s) (B r) q
        → Done R (drop (q.1 - r.1) s) (pushed q r.1 K) z → Done R s r z
    more s r q z n t a b =
        let d = length-drop (q.1 - r.1) s in
        let v = moves s r q n a in
        let w = lr s in
        done R s r z (omega (arith, b.low)) (omega (arith, b.high)) (λ f h.
        b.same f (omega arith)
        ∙ ap (λ (p : State). run f R (drop (p.1 - r.1) s) (add p.0 r.1 K, p.1)) (a.same f (omega (arith, fuel s n)))
        ∙ sym (step f s r t))

    turned : {s : List ℕ} {start : ℕ} {q₀ : State} {n₀ : ℕ} {q : State} {n : ℕ} {p y : State} → Upto R s start q₀ n₀ q n
        → (n < length s) × P (drop n s) → Done F (E (drop n s)) (B q) p → y ≡ pushed p q.1 K
        → Upto R s start q₀ n₀ y (y.1 - start)
    turned {s} {start} {q₀} {n₀} {q} {n} {p} {y} i t d g =
        let l = length-drop n s in
        let h : 0 < length (drop n s) = omega (arith, t.0) in
        let v = moves (drop n s) q p h d in
        turn R s start q₀ n₀ q n y (pushed p q.1 K) (p.1 - q.1) i g (omega arith) (omega (arith, t.0))
        (λ z c. more (drop n s) q p z h t.1 d c)

abbrev next : ℕ → List ℕ → Type 0
next b s = eqb (get_or s 0 0) b ≡ true

module _ {s : List ℕ} {start : ℕ} {q₀ : State} {n₀ : ℕ} {q : State} {n : ℕ} {z : State} {x : ℕ} where
  pub alt_turned : {y p : State} → Upto alt_rest s start q₀ n₀ q n → x ≡ get_or (tail n s) 0 0 → x ≡ 124 → y ≡ skipped q
      → Done conj (tail (n + 1) s) y p → z ≡ pushed p q.1 Union → Upto alt_rest s start q₀ n₀ z (z.1 - start)
  unfolding parse
  alt_turned i e h w d g =
      turned alt_rest conj Union (next 124) (drop 1) skipped (λ f s r t. rw t) (λ s n. omega (arith, length-drop 1 s))
      (λ s. omega arith) (λ s r q n a. (omega (arith, a.low), omega (arith, a.high, length-drop 1 s))) i (seen_at s n e h (omega arith))
      (past_sign conj n s w d) g

  pub conj_turned : {y p : State} → Upto conj_rest s start q₀ n₀ q n → x ≡ get_or (tail n s) 0 0 → x ≡ 38 → y ≡ skipped q
      → Done seq (tail (n + 1) s) y p → z ≡ pushed p q.1 Intersection
      → Upto conj_rest s start q₀ n₀ z (z.1 - start)
  unfolding parse
  conj_turned i e h w d g =
      turned conj_rest seq Intersection (next 38) (drop 1) skipped (λ f s r t. rw t) (λ s n. omega (arith, length-drop 1 s))
      (λ s. omega arith) (λ s r q n a. (omega (arith, a.low), omega (arith, a.high, length-drop 1 s))) i (seen_at s n e h (omega arith))
      (past_sign seq n s w d) g

  pub seq_turned : {p : State} {t : Bool} → Upto seq_rest s start q₀ n₀ q n → x ≡ get_or (tail n s) 0 0 → t ≡ is_start x → t ≡ true
      → Done pre (tail n s) q p → z ≡ pushed p q.1 Concatenation → Upto seq_rest s start q₀ n₀ z (z.1 - start)
  unfolding parse
  seq_turned i e h t d g =
      turned seq_rest pre Concatenation (λ s. is_start (get_or s 0 0) ≡ true) (λ s. s) (λ r. r) (λ f s r t. rw t)
      (λ s n. omega arith) (λ s. omega arith)
      (λ s r q n a. (omega (arith, a.low), omega (arith, a.high))) i (started_at s n e h t) (on_tail pre n s refl d) g

  pub post_turned : {y : State} → Upto post_rest s start q₀ n₀ q n → x ≡ get_or (tail n s) 0 0 → x ≡ 42 → y ≡ pushed q q.1 Star
      → z ≡ skipped y → Upto post_rest s start q₀ n₀ z (z.1 - start)
  unfolding parse
  post_turned i e h g w =
      let t = seen_at s n e h (omega arith) in
      turn post_rest s start q₀ n₀ q n z (skipped (pushed q q.1 Star)) 1 i (w ∙ ap skipped g) (omega arith) (omega (arith, t.0))
      (λ z c. star z t c)
    where
      star : (z : State) → (n < length s) × next 42 (drop n s)
          → Done post_rest (drop 1 (drop n s)) (skipped (pushed q q.1 Star)) z → Done post_rest (drop n s) q z
      star z t b =
          let l = length-drop n s in
          let d = length-drop 1 (drop n s) in
          done post_rest (drop n s) q z (omega (arith, b.low)) (omega (arith, b.high, t.0))
          (λ f h. b.same f (omega (arith, t.0)) ∙ rw t.1)

-- ---- the levels that read nothing more
module _ (l : Call) (s : List ℕ) (stop : (f : ℕ) (q : State) → run (suc f) l s q ≡ q) (none : least l s ≤ 0) where
  ends : (r : State) → Done l s r r
  ends r = done l s r r (omega arith) (omega arith) (λ f h. sym (stop f r))

-- a level whose loop is left at n
module _ {s : List ℕ} {r q₀ q : State} {n x : ℕ} where
  pub alt_left : Done conj s r q₀ → Upto alt_rest s r.1 q₀ (q₀.1 - r.1) q n → x ≡ get_or (tail n s) 0 0 → (x ≡ 124 → ⊥) → Done alt s r q
  unfolding parse
  alt_left d i e h =
      let t = unseen_at s n e h in
      alt_done s r q₀ q d (i.rest q (ends alt_rest (drop n s) (λ f q. rw t) (omega arith) q))

  pub conj_left : Done seq s r q₀ → Upto conj_rest s r.1 q₀ (q₀.1 - r.1) q n → x ≡ get_or (tail n s) 0 0 → (x ≡ 38 → ⊥) → Done conj s r q
  unfolding parse
  conj_left d i e h =
      let t = unseen_at s n e h in
      conj_done s r q₀ q d (i.rest q (ends conj_rest (drop n s) (λ f q. rw t) (omega arith) q))

  pub seq_left : {b : Bool} → Done pre s r q₀ → Upto seq_rest s r.1 q₀ (q₀.1 - r.1) q n → x ≡ get_or (tail n s) 0 0 → b ≡ is_start x
      → b ≡ false → Done seq s r q
  unfolding parse
  seq_left d i e h g =
      let t = start_at s n e h g in
      seq_done s r q₀ q d (i.rest q (ends seq_rest (drop n s) (λ f q. rw t) (omega arith) q))

  pub post_left : Done atom s r q₀ → Upto post_rest s r.1 q₀ (q₀.1 - r.1) q n → x ≡ get_or (tail n s) 0 0 → (x ≡ 42 → ⊥) → Done post s r q
  unfolding parse
  post_left d i e h =
      let t = unseen_at s n e h in
      post_done s r q₀ q d (i.rest q (ends post_rest (drop n s) (λ f q. rw t) (omega arith) q))

-- ---- an operand
module _ {s : List ℕ} {r z : State} {x : ℕ} (e : x ≡ get_or s 0 0) where
  pub pre_more : {y q : State} → x ≡ 33 → y ≡ skipped r → Done pre (tail 1 s) y q → z ≡ pushed q r.1 Complement → Done pre s r z
  unfolding parse
  pre_more {y} {q} h w a g =
      let t = seen s e h (omega arith) in
      let b = on_tail pre 1 s w a in
      let d = length-drop 1 s in
      let o = same_offset g in
      done pre s r z (omega (arith, b.low)) (omega (arith, b.high, t.0)) (λ f h.
      g ∙ ap (λ (p : State). (add p.0 r.1 Complement, p.1)) (b.same f (omega (arith, t.0))) ∙ rw t.1)

  pub pre_ends : (x ≡ 33 → ⊥) → Done post s r z → Done pre s r z
  unfolding parse
  pre_ends h a = let t = unseen s e h in done pre s r z a.low a.high (λ f h. a.same f (omega arith) ∙ rw t)

  -- what is read in parentheses, where the closing one is there or is not
  grouped : {y q : State} → x ≡ 40 → y ≡ skipped r → Done alt (tail 1 s) y q → q.1 ≤ z.1
      → (q.1 ≤ r.1 + length s → z.1 ≤ r.1 + length s) → cond (ltb (q.1 - r.1) (length s)) (skipped q) q ≡ z → Done atom s r z
  unfolding parse
  grouped {y} {q} h w a l u g =
      let t = seen s e h (omega arith) in
      let b = on_tail alt 1 s w a in
      let d = length-drop 1 s in
      done atom s r z (omega (arith, b.low, l)) (u (omega (arith, b.high, t.0))) (λ f h.
      sym g
      ∙ ap (λ (p : State). cond (ltb (p.1 - r.1) (length s)) (p.0, p.1 + 1) p) (b.same f (omega (arith, t.0)))
      ∙ rw t.1)

  pub group_closed : {y q : State} → x ≡ 40 → y ≡ skipped r → Done alt (tail 1 s) y q → q.1 - r.1 < length s → z ≡ skipped q
      → Done atom s r z
  group_closed h w a l g =
      let o = same_offset g in
      grouped h w a (omega arith) (λ u. omega (arith, a.low, same_offset w)) (rw (lt-ltb _ _ l) (sym g))

  pub group_open : {y : State} → x ≡ 40 → y ≡ skipped r → Done alt (tail 1 s) y z → length s ≤ z.1 - r.1 → Done atom s r z
  group_open h w a l = grouped h w a (omega arith) (λ u. u) (rw (le-ltb _ _ l))

  pub leaf_done : {l : Leaf} {p : State} → (x ≡ 40 → ⊥) → 0 < length s → l ≡ leaf_at s → p ≡ pushed r r.1 l.kind
      → z ≡ (p.0, p.1 + l.width) → Done atom s r z
  unfolding parse
  leaf_done {l} {p} h n k g w =
      let t = unseen s e h in
      let m = leaf_fits s n in
      let v = w ∙ ap (λ (p : State). (p.0, p.1 + l.width)) g ∙ ap (λ (y : Leaf). (add r.0 r.1 y.kind, r.1 + y.width)) k in
      let o = same_offset v in
      done atom s r z (omega (arith, m)) (omega (arith, m)) (λ f h. v ∙ rw (t, lt-ltb 0 (length s) n))

pub atom_ends : {s : List ℕ} {r : State} {x : ℕ} → x ≡ get_or s 0 0 → (x ≡ 40 → ⊥) → length s ≤ 0 → Done atom s r r
unfolding parse
atom_ends {s} {r} e h n =
    let t = unseen s e h in
    ends atom s (λ f q. rw (t, le-ltb 0 (length s) n)) (omega arith) r
