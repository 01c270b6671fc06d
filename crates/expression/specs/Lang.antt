-- The language of a rule, as section 2.1 of document 004 has it. Assumes nothing.
use Rattle.std.specs.Prelude.{◌≡◌, ◌⊎◌, [], ◌∷◌, ◌++◌, ℕ, zero, suc, T}
use Rattle.event.specs.Event.{Word, Events}
use Rattle.event.specs.LetterSets.{holds}
use Rattle.expression.specs.Tree.{Tree, empty, epsilon, letter, union, intersection, concatenation, complement, star}

-- L(r₁ · r₂) = {w₁ · w₂ : w₁ ∈ L(r₁) and w₂ ∈ L(r₂)}
abbrev pub Concat : (Word → Type 0) → (Word → Type 0) → Word → Type 0
Concat L M w = (u : Word) × (v : Word) × (w ≡ u ++ v) × L u × M v

-- r₁⁰ = {ε}, and r₁ⁱ = r₁ⁱ⁻¹ · r₁, for i ≥ 1
abbrev pub Power : (Word → Type 0) → ℕ → Word → Type 0
Power L zero w = w ≡ []
Power L (suc i) w = Concat (Power L i) L w

-- L(∅) = ∅, L(ε) = {ε}, L(σ) = {σ}; L(r₁ ∨ r₂) = L(r₁) ∪ L(r₂), L(r₁ ∧ r₂) = L(r₁) ∩ L(r₂), L(¬r₁) = Σ* \ L(r₁),
-- L(r₁ · r₂) as above, L(r₁*) = ⋃ r₁ⁱ over i ≥ 0.
-- 02 e): "section 2.1 takes a set as the union of its letters": L(c) = ⋃ {σ} over the letters σ of the set c.
-- 02 a) fixes Σ: "complement is taken against all words over the 52".
abbrev pub Lang : Tree → Word → Type 0
Lang (empty o) w = ⊥
Lang (epsilon o) w = w ≡ []
Lang (letter o c) w = (x : ℕ) × (w ≡ x ∷ []) × T (holds c x)
Lang (union o a b) w = Lang a w ⊎ Lang b w
Lang (intersection o a b) w = Lang a w × Lang b w
Lang (concatenation o a b) w = Concat (Lang a) (Lang b) w
Lang (complement o a) w = Events w × (Lang a w → ⊥)
Lang (star o a) w = (i : ℕ) × Power (Lang a) i w
