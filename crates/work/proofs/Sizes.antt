-- Sizes add up; a size is one number. Assumes nothing.
use mathlib.Core.Path.{◌≡◌, refl, sym, ap, subst, ◌∙◌}
use mathlib.Core.Logic.{◌⊎◌, inl, inr, ⊎_elim, ◌↔◌}
use mathlib.Core.List.Memᴰ
use mathlib.Core.List.{List, [], ◌∷◌, ◌++◌, Memᴰ}
use Prim.Native.Nat.{ℕ, ◌+◌, ◌≤◌}
use native.Mathlib.Omega.{arith}
use lib.ListN.{length, length-append}
use Rattle.work.specs.SizeOf.{Once, SizeOf}

module _ {A : Type 0} where
  pub size_none : (P : A → Type 0) → ((p : A) → P p → ⊥) → SizeOf P 0
  size_none P h = record { list = []; once = tt; holds = λ p. (λ m. absurd (Memᴰ.not-nil m), λ q. absurd (h p q)); count = refl }

  pub size_one : (P : A → Type 0) (q : A) → ((p : A) → (p ≡ q) ↔ P p) → SizeOf P 1
  size_one P q h =
      record {
        list = q ∷ [];
        once = (λ m. Memᴰ.not-nil m, tt);
        holds = λ p. (λ m. (h p).0 (Memᴰ.eq_of_singleton m), λ r. Memᴰ.head ((h p).1 r));
        count = refl;
      }

  pub size_same : (P Q : A → Type 0) (n : ℕ) → ((p : A) → P p ↔ Q p) → SizeOf P n → SizeOf Q n
  size_same P Q n h z =
      record {
        list = z.list;
        once = z.once;
        holds = λ p. (λ m. (h p).0 ((z.holds p).0 m), λ q. (z.holds p).1 ((h p).1 q));
        count = z.count;
      }

  once_append : (l m : List A) → Once l → Once m → ((p : A) → Memᴰ p l → Memᴰ p m → ⊥) → Once (l ++ m)
  once_append [] m d e h = e
  once_append (x ∷ l) m d e h = (
    λ k. ⊎_elim (λ p. d.0 p) (λ q. h x (Memᴰ.head refl) q) (Memᴰ.append_cases l k),
    once_append l m d.1 e (λ p a b. h p (Memᴰ.tail a) b),
  )

  -- two collections with no member in common
  pub size_sum : (P Q : A → Type 0) (m n : ℕ) → ((p : A) → P p → Q p → ⊥) → SizeOf P m → SizeOf Q n → SizeOf (λ p. P p ⊎ Q p) (m + n)
  size_sum P Q m n h y z =
      record {
        list = y.list ++ z.list;
        once = once_append y.list z.list y.once z.once (λ p a b. h p ((y.holds p).0 a) ((z.holds p).0 b));
        holds = λ p. (
          λ k. ⊎_elim (λ a. inl ((y.holds p).0 a)) (λ b. inr ((z.holds p).0 b)) (Memᴰ.append_cases y.list k),
          λ k. ⊎_elim (λ a. Memᴰ.append_left z.list ((y.holds p).1 a)) (λ b. Memᴰ.append_right y.list ((z.holds p).1 b)) k,
        );
        count = length-append y.list z.list ∙ omega (arith, y.count, z.count);
      }

-- ---- a size is one number
record Around {A : Type 0} (a : A) (l : List A) : Type 0 where
  front : List A
  rest : List A
  whole : l ≡ front ++ (a ∷ rest)

around : {A : Type 0} (a : A) (l : List A) → Memᴰ a l → Around a l
around a [] m = absurd (Memᴰ.not-nil m)
around {A} a (x ∷ l) m = go (Memᴰ.cases_cons m) (around a l)
  where
    go : (a ≡ x) ⊎ Memᴰ a l → (Memᴰ a l → Around a l) → Around a (x ∷ l)
    go (inl e) k = record { front = []; rest = l; whole = ap (◌∷ l) (sym e) }
    go (inr h) k = let r = k h in record { front = x ∷ r.front; rest = r.rest; whole = ap (x ∷◌) r.whole }

shorter : {A : Type 0} (l m : List A) → Once l → ((p : A) → Memᴰ p l → Memᴰ p m) → length l ≤ length m
shorter [] m d h = omega arith
shorter {A} (x ∷ l) m d h =
    let r = around x m (h x (Memᴰ.head refl)) in
    let k = shorter l (r.front ++ r.rest) d.1
    (λ p a. left p a r (Memᴰ.append_cases r.front (subst (Memᴰ p) r.whole (h p (Memᴰ.tail a))))) in
    omega (arith, simp length-append at k, simp length-append at (ap length r.whole))
  where
    after : (p : A) → Memᴰ p l → (r : Around x m) → (p ≡ x) ⊎ Memᴰ p r.rest → Memᴰ p (r.front ++ r.rest)
    after p a r (inl e) = absurd (d.0 (Memᴰ.cast (sym e) a))
    after p a r (inr b) = Memᴰ.append_right r.front b

    left : (p : A) → Memᴰ p l → (r : Around x m) → Memᴰ p r.front ⊎ Memᴰ p (x ∷ r.rest)
        → Memᴰ p (r.front ++ r.rest)
    left p a r (inl b) = Memᴰ.append_left r.rest b
    left p a r (inr b) = after p a r (Memᴰ.cases_cons b)

-- a collection within another is no larger
pub size_most : {A : Type 0} (P Q : A → Type 0) (m n : ℕ) → ((p : A) → P p → Q p) → SizeOf P m → SizeOf Q n → m ≤ n
size_most P Q m n h y z =
    let a = shorter y.list z.list y.once (λ p k. (z.holds p).1 (h p ((y.holds p).0 k))) in omega (arith, y.count, z.count, a)

pub size_unique : {A : Type 0} (P : A → Type 0) (m n : ℕ) → SizeOf P m → SizeOf P n → m ≡ n
size_unique P m n y z = omega (arith, size_most P P m n (λ p h. h) y z, size_most P P n m (λ p h. h) z y)
