-- A text uses a name that no line has exactly if one of its pieces is such a name. Assumes nothing.
use Prim.Native.Nat.{ℕ, zero, suc, ◌≤◌, ◌<◌}
use native.Mathlib.Omega.{arith}
use mathlib.Core.Path.{◌≡◌, refl, sym, ap, ap₂, subst, ◌∙◌}
use mathlib.Core.Bool.{Bool, true, false, ◌&&◌}
use mathlib.Core.List.{List, [], ◌∷◌, ◌++◌, append_assoc}
use lib.Dec.{T}
use lib.ListN.{length, length-append}
use Rattle.replacement.specs.Replaced.{is_lower, Lowers, Name, is_angle, angled, Replaced, ends, byte, name}
use Rattle.replacement.specs.Pieces.{pieces_from, pieces}
use Rattle.replacement.proofs.PieceLaws.{of_byte, of_name, View, nothing, a_byte, a_name, malformed, view}
use Rattle.replacement.proofs.ShapeLaws.{own_byte}
use Rattle.rule_line.specs.Lines.{Line}
use Rattle.rule_line.specs.LineMeaning.{Uses}
use Rattle.rule_line.specs.LineComputed.{has, knows}
use Rattle.rule_line.proofs.LineNames.{unlike}

never : {A : Type 0} {n : ℕ} {x : List ℕ} → [] ≡ n ∷ x → A
never e = absurd (let z : ◌≡◌ {A = ℕ} 0 1 = cc in omega arith)

not_lower : (b c : ℕ) → T (is_lower b) → b ≡ c → (T (is_lower c) → ⊥) → ⊥
not_lower b c h e f = f (subst (λ (n : ℕ). T (is_lower n)) e h)

-- ---- cutting at brackets
same_name : (n m a b : List ℕ) → Lowers n → Lowers m → n ++ 62 ∷ a ≡ m ++ 62 ∷ b → n ≡ m
unfolding is_lower
same_name [] [] a b p q e = refl
same_name [] (c ∷ m) a b p q e = absurd (not_lower c 62 q.0 (cc) (λ h. h))
same_name (c ∷ n) [] a b p q e = absurd (not_lower c 62 p.0 (cc) (λ h. h))
same_name (c ∷ n) (d ∷ m) a b p q e =
    let y : c ≡ d = cc in
    let z : n ++ 62 ∷ a ≡ m ++ 62 ∷ b = cc in
    ap₂ (λ (k : ℕ) (s : List ℕ). k ∷ s) y (same_name n m a b p.1 q.1 z)

past_name : (m s y z : List ℕ) → Lowers m → m ++ 62 ∷ s ≡ y ++ 60 ∷ z → (x : List ℕ) × (s ≡ x ++ 60 ∷ z)
unfolding is_lower
past_name [] s [] z p e = absurd (let n : ◌≡◌ {A = ℕ} 62 60 = cc in omega arith)
past_name [] s (c ∷ y) z p e = (y, cc)
past_name (b ∷ m) s [] z p e = absurd (not_lower b 60 p.0 (cc) (λ h. h))
past_name (b ∷ m) s (c ∷ y) z p e = let f : m ++ 62 ∷ s ≡ y ++ 60 ∷ z = cc in past_name m s y z p.1 f

neither_known : (a b : Bool) → b ≡ false → (a && b) ≡ false
neither_known true b e = e
neither_known false b e = refl

module _ (ls : List Line) where
  -- ---- a name that is used and that no line has
  pub used_unknown : {R : List ℕ → List ℕ → Type 0} {s u : List ℕ} → Replaced R s u → (x n y : List ℕ) → Name n → s ≡ x ++ angled n y
      → has ls n ≡ false → knows ls (pieces s) ≡ false
  unfolding knows
  used_unknown ends [] n y a e h = never e
  used_unknown ends (c ∷ x) n y a e h = never e
  used_unknown (byte {b = b} i r) [] n y a e h =
      let z : b ≡ 60 = cc in
      absurd (unlike (ap is_angle z) i)
  used_unknown (byte {b = b} {s = s} i r) (c ∷ x) n y a e h =
      let z : s ≡ x ++ angled n y = cc in
      ap (knows ls) (of_byte b s (own_byte b i)) ∙ used_unknown r x n y a z h
  used_unknown (name {n = m} {s = s} d w r) [] n y a e h =
      let z : n ++ 62 ∷ y ≡ m ++ 62 ∷ s = cc in
      ap (knows ls) (of_name m s d)
      ∙ ap (λ (b : Bool). b && knows ls (pieces s)) (ap (has ls) (sym (same_name n m y s a.letters d.letters z)) ∙ h)
  used_unknown (name {n = m} {s = s} d w r) (c ∷ x) n y a e h =
      let z : m ++ 62 ∷ s ≡ x ++ 60 ∷ (n ++ 62 ∷ y) = cc in
      let p = past_name m s x (n ++ 62 ∷ y) d.letters z in
      ap (knows ls) (of_name m s d) ∙ neither_known (has ls m) (knows ls (pieces s)) (used_unknown r p.0 n y a p.1 h)

  -- ---- and one is found
  pub record Unknown (s : List ℕ) : Type 0 where
    pub name : List ℕ
    pub uses : Uses s name
    pub lacking : has ls name ≡ false

  before : (x s : List ℕ) → Unknown s → Unknown (x ++ s)
  before x s k =
      record {
        name = k.name;
        uses = record {
          before = x ++ k.uses.before;
          after = k.uses.after;
          name = k.uses.name;
          whole = ap (λ (y : List ℕ). x ++ y) k.uses.whole ∙ sym (append_assoc x k.uses.before _);
        };
        lacking = k.lacking;
      }

  past_this : (n s : List ℕ) → Unknown s → Unknown (angled n s)
  past_this n s k =
      let e : (60 ∷ (n ++ 62 ∷ [])) ++ s ≡ angled n s = ap (λ (x : List ℕ). 60 ∷ x) (append_assoc n (62 ∷ []) s) in
      subst Unknown e (before (60 ∷ (n ++ 62 ∷ [])) s k)

  this : (n s : List ℕ) → Name n → has ls n ≡ false → Unknown (angled n s)
  this n s a h = record { name = n; uses = record { before = []; after = s; name = a; whole = refl }; lacking = h }

  step : (s : List ℕ) → View s → ((x : List ℕ) → length x < length s → knows ls (pieces x) ≡ false → Unknown x) → knows ls (pieces s) ≡ false → Unknown s
  unfolding knows pieces_from
  step s nothing ih e = absurd (unlike refl e)
  step _ (a_byte {b = b} {s = s} i) ih e = before (b ∷ []) s (ih s (omega arith) (sym (ap (knows ls) (of_byte b s i)) ∙ e))
  step _ (a_name {n = n} s a) ih e = go (has ls n) refl (sym (ap (knows ls) (of_name n s a)) ∙ e)
    where
      go : (b : Bool) → has ls n ≡ b → (has ls n && knows ls (pieces s)) ≡ false → Unknown (angled n s)
      go true h f = past_this n s (ih s (omega (arith, length-append n (62 ∷ s))) (sym (ap (λ (b : Bool). b && knows ls (pieces s)) h) ∙ f))
      go false h f = this n s a h
  step _ (malformed {s = s} i) ih e = before (60 ∷ []) s (ih s (omega arith) (sym (ap (knows ls) i) ∙ e))

  unknown : (f : ℕ) (s : List ℕ) → length s ≤ f → knows ls (pieces s) ≡ false → Unknown s
  unknown zero s l = step s (view s) (λ x h. absurd (omega arith))
  unknown (suc f) s l = step s (view s) (λ x h. unknown f x (omega arith))

  pub unknown_used : (s : List ℕ) → knows ls (pieces s) ≡ false → Unknown s
  unknown_used s = unknown (length s) s (omega arith)
