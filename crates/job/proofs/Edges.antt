-- Document 01's whole case, by computation. Assumes nothing.
use mathlib.Core.Path.{◌≡◌, refl}
use lib.Count.{ones}
use Rattle.bits.specs.Bit.{has_bit, bit_at, ones_of}
use Rattle.bits.specs.Runs.{packed, packed_run}
use Rattle.decimal.specs.Decimal.{decimal_in}
use Rattle.event.specs.Event.{is_event}
use Rattle.event.specs.Leading.{leading}
use Rattle.event.specs.LetterSets.{holds, bit_of}
use Rattle.event.specs.Text.{bytes}
use Rattle.expression.specs.Accept.{accepts}
use Rattle.expression.specs.Leaves.{leaf_at}
use Rattle.expression.specs.Parse.{parse}
use Rattle.expression.specs.Scan.{scan_from}
use Rattle.expression.specs.TreeOf.{tree_of}
use Rattle.expression.specs.OrderComputed.{unordered_from}
use Rattle.expression.specs.StarsComputed.{double_from}
use Rattle.rule.specs.RuleComputed.{sentence_outcome, rule_answer}
use Rattle.day.specs.DayLines.{line_of, day_lines}
use Rattle.day.specs.DayComputed.{day_events, day_answer}
use Rattle.work.specs.Count.{full_count}
use Rattle.work.specs.TableComputed.{obeys, block, table, found}
use Rattle.table.specs.Layout.{span_bit}
use Rattle.matcher.specs.MatchComputed.{fit_answer, match_answer}
use Rattle.judge.specs.JudgeComputed.{judge_answer}
use Rattle.listing.specs.Lines.{span_lines}
use Rattle.listing.specs.Marked.{ends, starts, listing}
use Rattle.job.specs.JobComputed.{job_result, job_text}

-- 01, The program: "Whole case"
whole_case : job_text (bytes "R\t!a\nE\t0\ta\n") ≡ bytes "H\t1\t2\t1\t2\t7\nS\t0\t0\nS\t1\t1\n"
unfolding job_text job_result decimal_in listing span_lines ends starts span_bit judge_answer match_answer fit_answer day_answer day_events day_lines line_of
    leading is_event rule_answer sentence_outcome tree_of parse leaf_at scan_from unordered_from double_from holds bit_of accepts full_count obeys block table found packed_run packed ones_of ones has_bit bit_at
whole_case = refl
