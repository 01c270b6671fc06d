-- `read_set` is the set that a bracket opens. Assumes nothing.
use Prim.Native.Nat.{ℕ, ◌+◌, ◌-◌, ◌≤◌}
use native.Mathlib.Omega.{arith}
use mathlib.Core.Path.{◌≡◌, ap, ◌∙◌}
use mathlib.Core.List.{List}
use lib.ListN.{length, take, drop, length-drop}
use Rattle.event.specs.Event.{is_event}
use Rattle.event.specs.Leading.{leading}
use Rattle.event.specs.LetterSets.{letters_of}
use Rattle.event.specs.declared.sets.LetterSet.{LetterSet}
use Rattle.event.proofs.LeadingLaws.{leading_found}
use Rattle.event.proofs.Tails.{tail, tail_is}
use Rattle.expression.proofs.LeafLaws.{set_closed, set_open}
use Rattle.rule.proofs.leaf.read_set.Goals as goal

-- the letters behind the bracket
counted : (s : List ℕ) (k : ℕ) → k ≡ leading is_event (tail 1 s) → k ≡ leading is_event (drop 1 s)
counted s k e = e ∙ ap (leading is_event) (tail_is 1 s)

few : (s : List ℕ) (k : ℕ) → k ≡ leading is_event (tail 1 s) → k + 1 ≤ length s + 1
few s k e = omega (arith, counted s k e, (leading_found is_event (drop 1 s)).within, length-drop 1 s)

gathered_there : (s : List ℕ) (k : ℕ) (c : LetterSet) → c ≡ letters_of (take (k + 1 - 1) (drop 1 s)) → c ≡ letters_of (take k (drop 1 s))
gathered_there s k c e = let z : k + 1 - 1 ≡ k = omega arith in e ∙ ap (λ (n : ℕ). letters_of (take n (drop 1 s))) z

pub overflow_add-end : goal.overflow_add-end
overflow_add-end c =
    let s = c.args.s.now in
    omega (arith, few s _ c.count_letters-end.ensures)

pub slice_bounds-gather-end : goal.slice_bounds-gather-end
slice_bounds-gather-end c =
    let s = c.args.s.now in
    omega (arith, counted s _ c.count_letters-end.ensures, (leading_found is_event (drop 1 s)).within, length-drop 1 s, c.requires.0)

pub returns-then-end-s : goal.returns-then-end-s
returns-then-end-s c =
    let s = c.args.s.now in
    c.leaf.ensures ∙ set_closed s _ _ (counted s _ c.count_letters-end.ensures) (gathered_there s c.count_letters-end.result _ c.gather-set.ensures) c.if-end-s.true

pub returns : goal.returns
returns c =
    let s = c.args.s.now in
    c.leaf-2.ensures ∙ set_open s _ _ (counted s _ c.count_letters-end.ensures) (gathered_there s c.count_letters-end.result _ c.gather-set.ensures) c.if-end-s.false
