-- `read_name` finds the name that `name_length` measures. Assumes nothing.
use native.Mathlib.Omega.{arith}
use mathlib.Core.Path.{◌≡◌, sym, ap, ◌∙◌}
use lib.ListN.{take}
use Prim.Native.Nat.{ℕ, ◌≤◌}
use lib.ListN.{length}
use lib.Seq.{length-take-le}
use Rattle.event.proofs.LeadingLaws.{leading_found}
use Rattle.replacement.specs.Replaced.{is_lower}
use Rattle.replacement.specs.Pieces.{name_length}
use Rattle.replacement.proofs.NameLaws.{no_letters, many_letters, name_ends, name_goes_on}
use Rattle.rule_line.proofs.names.read_name.Goals as goal
use Rattle.rule_line.proofs.names.read_name.Goals.{then-count-eq0-via-then-count-eq0, then-count-eq0-via-else-count-eq0+then-count-gt-MOST_LETTERS, then-count-eq0-via-else-count-eq0+else-count-gt-MOST_LETTERS+then-byte_at-end}

pub returns-then-count-eq0 : goal.returns-then-count-eq0
returns-then-count-eq0 c =
    let e = c.count_lower-count.ensures in
    elim c.then-count-eq0.branch [
      | then-count-eq0-via-then-count-eq0 w ↦ sym (no_letters c.args.end c.args.s.now _ e (omega arith))
      | then-count-eq0-via-else-count-eq0+then-count-gt-MOST_LETTERS w ↦ sym (many_letters c.args.end c.args.s.now _ e (omega arith))
      | then-count-eq0-via-else-count-eq0+else-count-gt-MOST_LETTERS+then-byte_at-end w ↦
          sym (name_goes_on c.args.end c.args.s.now _ e (omega arith) (omega arith) (λ f. w.if-byte_at-end.true (w.byte_at.ensures ∙ f)))
    ]

pub returns : goal.returns
returns c =
    let s = c.args.s.now in
    let e = c.count_lower-count.ensures in
    let n : c.count_lower-count.result ≡ name_length c.args.end s
    = name_ends c.args.end s _ e (omega arith) (omega arith) (sym c.byte_at.ensures ∙ c.if-byte_at-end.false) in
    let l : c.count_lower-count.result ≤ length s = omega (arith, (leading_found is_lower s).within) in
    (omega arith, ap (λ (k : ℕ). take k s) n, length-take-le c.count_lower-count.result s l ∙ n)

pub slice_bounds-result-end : goal.slice_bounds-result-end
slice_bounds-result-end c =
    let s = c.args.s.now in
    let e = c.count_lower-count.ensures in
    let l : c.count_lower-count.result ≤ length s = omega (arith, (leading_found is_lower s).within) in
    sym (length-take-le c.count_lower-count.result s l)
