-- A text with each run of stars made one star: as a relation, and computed. Assumes nothing.
-- That the two agree are `squeezed` and `squeezed_only` in proofs/StarLaws.
use Rattle.std.specs.Prelude.{ℕ, suc, ◌≡◌, Bool, cond, List, [], ◌∷◌, ◌++◌, get_or, replicate}
use Rattle.expression.specs.StarsComputed.{doubles}

-- 02 f): "each run of stars to one star"; nothing else changes. A run ends where no star follows.
pub data Squeezed : List ℕ → List ℕ → Type 0 where
  none : Squeezed [] []
  other : {b : ℕ} {s r : List ℕ} → (b ≡ 42 → ⊥) → Squeezed s r → Squeezed (b ∷ s) (b ∷ r)
  run : (n : ℕ) {s r : List ℕ} → (get_or s 0 0 ≡ 42 → ⊥) → Squeezed s r → Squeezed (replicate (suc n) 42 ++ s) (42 ∷ r)

-- ---- computed
abbrev pub keep_unless : Bool → ℕ → List ℕ → List ℕ
keep_unless t b r = cond t r (b ∷ r)

-- the text without its stars directly after a star; p is the byte before it
unfoldable pub squeezed_after : ℕ → List ℕ → List ℕ
squeezed_after p [] = []
squeezed_after p (b ∷ s) = keep_unless (doubles p b) b (squeezed_after b s)

-- before a text stands no star
abbrev pub rewritten : List ℕ → List ℕ
rewritten s = squeezed_after 0 s
