-- `width` counts the digits: a number has one more for each power of ten from ten on that is not above it. Assumes nothing.
use Rattle.std.proofs.Common.{ℕ, Bool, zero, suc, ◌+◌, ◌-◌, ◌^◌, ◌≤◌, ◌<◌, ◌≡◌, ◌∙◌, ap, List, leb, length, length-drop, get_or, take, drop, arith, rules, tests}
use Rattle.std.specs.List.{prefix_len, take_while}
use Rattle.std.proofs.lemmas.Bool.{leb-false, leb-true}
use Rattle.std.proofs.lemmas.Iterator.{YieldsList-from_slice}
use Rattle.std.proofs.lemmas.Iterator.Consumers.{count_from_yields_List, YieldsList-at}
use Rattle.std.proofs.lemmas.Iterator.Search.{YieldsList-from_take_while}
use Rattle.std.proofs.lemmas.List.{get_or-take, get_or-drop}
use Rattle.std.proofs.Math.Seq.{length-take-le}
use native.Mathlib.Decide.{dec_lt}
use native.Mathlib.Nat.{le_antisymm}
use Rattle.std.proofs.lemmas.List.Folds.{length-prefix_len}
use Rattle.std.proofs.lemmas.List.Sums.{prefix_len-le-length, prefix_len_passes, prefix_len_stops}
use Rattle.decimal.specs.Decimal.{decimal}
use Rattle.decimal.specs.Powers.{Powers}
use Rattle.decimal.proofs.NumeralLaws.{decimal_some, decimal_length, decimal_few, decimal_many}
use Rattle.decimal.proofs.width.Goals as goal

-- where the first k powers from ten on are not above x, and the next one, if there is one, is
wide : (k x : ℕ) → k ≤ 19 → (1 ≤ k → 10 ^ k ≤ x) → (k < 19 → x < 10 ^ (k + 1)) → 1 + k ≡ length (decimal x)
wide k x h reached next = le_antisymm (at_least k h reached) (go (dec_lt k 19))
  where
    at_least : (k : ℕ) → k ≤ 19 → (1 ≤ k → 10 ^ k ≤ x) → 1 + k ≤ length (decimal x)
    at_least zero h reached = decimal_some x
    at_least (suc k) h reached = omega (arith, decimal_many (suc k) x (omega arith) (reached (omega arith)))

    go : Dec (k < 19) → length (decimal x) ≤ 1 + k
    go (yes l) = omega (arith, decimal_few (k + 1) x (omega arith) (next l))
    go (no l) = omega (arith, decimal_length x)

module _ {ps : List ℕ} (x : ℕ) (powers : Powers ps) (all : length ps ≡ 20) where
  abbrev tens : List ℕ
  tens = take (20 - 1) (drop 1 ps)

  ten_at : (i : ℕ) → i < 19 → get_or tens i 0 ≡ 10 ^ (i + 1)
  ten_at i h =
      let e : 1 + i ≡ i + 1 = omega arith in
      get_or-take (20 - 1) (drop 1 ps) i 0 h ∙ get_or-drop 1 ps i 0 ∙ ap (λ (k : ℕ). get_or ps k 0) e ∙ powers.entry (i + 1) (omega arith)

  long : length tens ≡ 19
  long = length-take-le 19 (drop 1 ps) (omega (arith, length-drop 1 ps))

  counted : 1 + length (take_while (λ p. leb p x) tens) ≡ length (decimal x)
  counted =
      let p : ℕ → Bool = λ (y : ℕ). leb y x in
      let k = prefix_len p tens in
      let within = prefix_len-le-length p tens in
      ap (λ (n : ℕ). 1 + n) (length-prefix_len p tens)
      ∙ wide k x (omega (arith, long))
      (λ h. let e : k - 1 + 1 ≡ k = omega arith in
      rw (← e) (rw (← ten_at (k - 1) (omega (arith, long))) (leb-true _ _ (prefix_len_passes p tens (k - 1) 0 (omega arith)))))
      (λ h. rw (← ten_at k h) (leb-false _ _ (prefix_len_stops p tens 0 (omega (arith, long)))))

pub returns : goal.returns
returns c =
    let x = c.args.x in
    let n : c.count.result ≡ length (take_while (λ p. leb p x) (take (20 - 1) (drop 1 c.powers_of_ten-powers.result))) =
    count_from_yields_List _ _ c.count.ensures.ran
    (YieldsList-from_take_while _ (λ p. leb p x) (YieldsList-at c.take_while.ensures.source (YieldsList-from_slice _ cc))
    c.take_while.ensures.closure c.take_while.ensures.done (λ y b q k. search (rules, tests))) in
    ap (λ (k : ℕ). 1 + k) n ∙ counted x c.powers_of_ten-powers.ensures (search rules)
