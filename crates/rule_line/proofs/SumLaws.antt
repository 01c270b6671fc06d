-- What the proofs of the functions that sum up the pieces cite. Assumes nothing.
use Prim.Native.Nat.{ℕ, suc, ◌+◌, ◌≤◌, ◌<◌}
use native.Mathlib.Omega.{arith}
use native.Mathlib.Decide.{dec_lt}
use native.Mathlib.Numerals.{add-one}
use mathlib.Core.Path.{◌≡◌, refl, sym, ap, subst, ◌∙◌}
use mathlib.Core.List.{List, [], ◌∷◌, ◌++◌}
use lib.ListN.{length, get_or, take, set, length-set}
use lib.Seq.{take-suc, get_or-set_same, get_or-set_other}
use Rattle.std.specs.Prelude.{Option, Some, None}
use Rattle.rule_line.specs.Coding.{rule_named}
use Rattle.rule_line.specs.Summing.{SmallSums, summed_one, summed, no_sums}
use Rattle.rule_line.specs.Passed.{PassedLine}
use Rattle.rule_line.specs.declared.PassedRule.{PassedRule}
use Rattle.rule_line.specs.declared.shape.Origin.{Origin}
use Rattle.rule_line.specs.declared.shape.Origin.TheVariants.{Own}
use Rattle.rule_line.specs.declared.sums.Sums.{Sums}

pub small_more : (w : Sums) (m n : ℕ) → m ≤ n → SmallSums w m → SmallSums w n
small_more w m n h s =
    record { length_most = omega (arith, s.length_most); nodes_most = omega (arith, s.nodes_most); specials_most = omega (arith, s.specials_most) }

module _ (lines : List PassedLine) where
  summed_append : (w : Sums) (x y : List Origin) → summed lines w (x ++ y) ≡ summed lines (summed lines w x) y
  unfolding summed
  summed_append w [] y = refl
  summed_append w (o ∷ x) y = summed_append (summed_one w (rule_named lines o)) x y

  summed_next : (origins : List Origin) (j : ℕ) → j < length origins
      → summed lines no_sums (take (j + 1) origins) ≡ summed_one (summed lines no_sums (take j origins)) (rule_named lines (get_or origins j Own))
  unfolding summed
  summed_next origins j h =
      ap (λ (k : ℕ). summed lines no_sums (take k origins)) (add-one j) ∙ ap (summed lines no_sums) (take-suc origins j Own h)
      ∙ summed_append no_sums (take j origins) (get_or origins j Own ∷ [])

  small_next : (w : Sums) (n : ℕ) (q : Option PassedRule) → SmallSums w n → SmallSums (summed_one w q) (n + 1)
  small_next w n None s =
      record { length_most = omega (arith, s.length_most); nodes_most = omega (arith, s.nodes_most); specials_most = omega (arith, s.specials_most) }
  small_next w n (Some q) s =
      record {
        length_most = omega (arith, s.length_most, q.length_bound);
        nodes_most = omega (arith, s.nodes_most, q.records.m_bound);
        specials_most = omega (arith, s.specials_most, q.specials_bound);
      }

  pub small_sums : (w : Sums) (os : List Origin) (n : ℕ) → SmallSums w n → SmallSums (summed lines w os) (n + length os)
  unfolding summed
  small_sums w [] n s = small_more w n (n + 0) (omega arith) s
  small_sums w (o ∷ os) n s =
      let i = small_sums (summed_one w (rule_named lines o)) os (n + 1) (small_next w n (rule_named lines o) s) in
      small_more (summed lines (summed_one w (rule_named lines o)) os) (n + 1 + length os) (n + suc (length os)) (omega arith) i

-- the loop
pub record Summing (lines : List PassedLine) (origins : List Origin) (places : List ℕ) (w : Sums) (j : ℕ) : Type 0 where
  pub within : j ≤ length origins
  pub sums : w ≡ summed lines no_sums (take j origins)
  pub small : SmallSums w j
  pub placed : (i : ℕ) → i < j → get_or places i 0 ≡ (summed lines no_sums (take i origins)).length
  pub long : length places ≡ 255

pub summing_start : (lines : List PassedLine) (origins : List Origin) (places : List ℕ) → length places ≡ 255 → Summing lines origins places no_sums 0
unfolding summed
summing_start lines origins places h =
    record {
      within = omega arith;
      sums = refl;
      small = record { length_most = omega arith; nodes_most = omega arith; specials_most = omega arith };
      placed = λ i g. absurd (omega arith);
      long = h;
    }

module _ {lines : List PassedLine} {origins : List Origin} {places : List ℕ} {w : Sums} {j : ℕ} (v : Summing lines origins places w j) where
  pub summing_on : (r : Sums) → length origins ≤ 255 → j < length origins → r ≡ summed_one w (rule_named lines (get_or origins j Own))
      → Summing lines origins (set places j w.length) r (j + 1)
  summing_on r l h e =
      record {
        within = omega arith;
        sums = e ∙ ap (λ (x : Sums). summed_one x (rule_named lines (get_or origins j Own))) v.sums ∙ sym (summed_next lines origins j h);
        small = subst (λ (x : Sums). SmallSums x (j + 1)) (sym e) (small_next lines w j (rule_named lines (get_or origins j Own)) v.small);
        placed = λ i g. go i g (dec_lt i j);
        long = length-set places j w.length ∙ v.long;
      }
    where
      go : (i : ℕ) → i < j + 1 → Dec (i < j) → get_or (set places j w.length) i 0 ≡ (summed lines no_sums (take i origins)).length
      go i g (yes d) = get_or-set_other places j i w.length 0 (λ z. omega arith) ∙ v.placed i d
      go i g (no d) =
          let z : i ≡ j = omega arith in
          let q = v.long in
          ap (λ (k : ℕ). get_or (set places j w.length) k 0) z ∙ get_or-set_same places j w.length 0 (omega arith)
          ∙ ap (λ (x : Sums). x.length) v.sums ∙ ap (λ (k : ℕ). (summed lines no_sums (take k origins)).length) (sym z)
