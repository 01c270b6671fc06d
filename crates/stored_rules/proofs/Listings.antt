-- A job with the rewritten text of a stored rule has the `S` lines of the rule's own reading. Assumes nothing.
use Prim.Native.Nat.{ℕ, ◌<◌}
use native.Mathlib.Omega.{arith}
use mathlib.Core.Path.{◌≡◌, refl, sym, ap, subst, ◌∙◌}
use mathlib.Core.Bool.{true≢false}
use mathlib.Core.List.{List, ◌++◌, map}
use lib.ListN.{length, get_or}
use Rattle.event.specs.Event.{is_event, Word}
use Rattle.expression.specs.Tree.{Tree}
use Rattle.rule.specs.RuleAnswer.{is_rule_byte}
use Rattle.rule.specs.RuleMeaning.{Legal}
use Rattle.day.specs.DayFile.{DayEvent, letter_of}
use Rattle.day.specs.DayMeaning.{Whole}
use Rattle.work.specs.Spans.{Spans}
use Rattle.listing.specs.Lines.{head_line, span_lines}
use Rattle.job.specs.FirstBlock.{heading}
use Rattle.job.specs.JobMeaning.{BothPassed, Lists, Writes, writes_list}
use Rattle.job.proofs.Answered.{judged_short}
use Rattle.job.proofs.Listed.{lists_text, text_obeying, same_spans, one_found, one_count}
use Rattle.rewrite.specs.Rewritten.{rewritten}
use Rattle.rewrite.specs.RewriteMeaning.{Rewritable}
use Rattle.rewrite.proofs.Stays.{found_same}
use Rattle.rewrite.specs.RewrittenRule.{RewrittenRule}
use Rattle.rewrite.proofs.RewrittenRules.{rewritten_rule}
use Rattle.stored_rules.specs.SameLines.{job_of, SameLines}

-- no byte of a rule is a newline
no_newline : {s : List ℕ} → Legal s → (i : ℕ) → i < length s → get_or s i 0 ≡ 10 → ⊥
unfolding is_event
no_newline l i h e = true≢false (sym (l.listed i h) ∙ ap is_rule_byte e)

module _ (rule file : List ℕ) (t : Tree) (events : List DayEvent) (day : Whole file events) where
  abbrev word : Word
  word = map letter_of events

  both : (u : Tree) → RewrittenRule rule t u → BothPassed (job_of (rewritten rule) file) u word
  both u c = record {
    rule = rewritten rule;
    file = file;
    parted = record { text = refl; line = no_newline c.passed.legal };
    passed = c.passed;
    events = events;
    whole = day;
    word = refl;
  }

  -- `Lists` is what a job says with a rule that passes its row and is read as t; of a rule that 21 refuses it is the listing that the rule
  -- would have without that number. Whatever it lists, the job with the rewritten rule has the same `S` lines.
  pub same_lines : Rewritable rule t → {found count : ℕ} {text : List ℕ} (l : Lists word t found count text)
      → SameLines word t found count l.spans (job_of (rewritten rule) file)
  same_lines p {found} {count} l =
      let (u, c) = rewritten_rule p in
      let j = both u c in
      let short = judged_short j in
      let e = same_spans word t short l ∙ c.lists word in
      let x = writes_list j (lists_text word u short) in
      record {
        head = heading word u;
        writes = subst (λ (k : Spans). Writes (job_of (rewritten rule) file) (head_line (heading word u) ++ span_lines k)) (sym e)
            (subst (Writes (job_of (rewritten rule) file)) (text_obeying word u short) x);
        events = refl;
        nodes = c.same.nodes;
        special = c.same.special;
        same_found = sym (one_found word t short l ∙ found_same t u c.same.lang word);
        lower_count = omega (arith, one_count word t short l, c.counts word);
      }
