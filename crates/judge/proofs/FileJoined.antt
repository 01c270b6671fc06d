-- What the answer of the reader of rule files comes to in the judge's. Assumes nothing.
use Prim.Native.Nat.{ℕ, ◌-◌, ◌<◌}
use native.Mathlib.Omega.{arith}
use mathlib.Core.Path.{◌≡◌, sym, ap, ◌∙◌}
use mathlib.Core.List.{List, [], ◌∷◌, ◌++◌, map, Memᴰ}
use Rattle.std.specs.Prelude.{Ok, Err}
use lib.ListN.{length}
use Rattle.event.specs.Event.{Word}
use Rattle.expression.specs.Tree.{Tree}
use Rattle.expression.specs.declared.records.Records.{Records}
use Rattle.rule_line.specs.Lines.{Line, LineNodes, line_nodes, told_line, line_at}
use Rattle.rule_file.specs.FileAnswer.{FileAnswer, acceptance, file_values, refusal_verdict}
use Rattle.rule_file.specs.FileMeaning.{Passed}
use Rattle.rule_file.specs.FileComputed.{FileRead, file_read, answered, file_answer}
use Rattle.rule_file.specs.declared.accepted.RuleFile.{RuleFile}
use Rattle.rule_file.specs.declared.LineRefusal.{LineRefusal}
use Rattle.rule_file.proofs.FileRows.{in_file, refused_file, line_fits, entry}
use Rattle.owners.specs.Filling.{rule_of}
use Rattle.matcher.specs.MatchAnswer.{told}
use Rattle.matcher.specs.MatchComputed.{match_answer}
use Rattle.matcher.specs.Given.{RuleRecords}
use Rattle.judge.specs.JudgeFileComputed.{last_line, judge_file_answer}
use Rattle.judge.proofs.ReadRule.{ReadRule, rebuilt, as_records}
use Rattle.judge.proofs.FileLines.{line_rising, last_in, last_line_lem, Comes, refuses, passes, comes}
use Rattle.judge.proofs.FileAnswered.{to_refusal, to_match}

module _ (file : List ℕ) where
  -- the reader refused
  pub after_refusal : (w : Word) (limit : ℕ) (old : List ℕ) (x : LineRefusal) → file_values (Err x) ≡ file_answer file
      → told (refusal_verdict x.refusal x.line) old ≡ judge_file_answer file w limit old
  after_refusal w limit old x k =
      to_refusal file w limit old (in_file x.refusal x.line).number (ap (λ (a : FileAnswer). a.number) k) (ap (λ (a : FileAnswer). a.place) k)

  -- the reader accepted
  module _ (f : RuleFile) (v : file_values (Ok f) ≡ file_answer file) where
    abbrev lines : List LineNodes
    lines = map told_line f.lines

    record Lines : Type 0 where
      above : List Line
      last : Line
      passed : Passed file (above ++ last ∷ []) []
      few : length above < 16
      same : file_values (Ok f) ≡ acceptance (above ++ last ∷ [])

    lines_read : Lines
    lines_read = go (file_read file) (comes file) v
      where
        go : (x : FileRead) → Comes file x → file_values (Ok f) ≡ answered x → Lines
        go x (refuses m) q = absurd ((refused_file m).number (sym (ap (λ (a : FileAnswer). a.number) q)))
        go x (passes ls l p few) q = record { above = ls; last = l; passed = p; few = few; same = q }

    many : f.count ≡ length (lines_read.above ++ lines_read.last ∷ [])
    many = ap (λ (a : FileAnswer). a.r) lines_read.same

    -- what is answered of a line, to the matcher
    read_rule_lem : (l : Line) → Memᴰ l (lines_read.above ++ lines_read.last ∷ []) → {y : LineNodes} → y ≡ line_nodes l.tree
        → ReadRule l.tree y.nodes y.m y.k
    read_rule_lem l h q =
        let f = line_fits lines_read.passed l h in
        record {
          front = ap (λ (x : LineNodes). x.nodes) q;
          long = ap (λ (x : LineNodes). x.m) q;
          special = ap (λ (x : LineNodes). x.k) q;
          few_nodes = f.0;
          few_special = f.1;
          rising = line_rising lines_read.passed l h;
        }

    -- the records of any line of the file
    pub line_records : (i : ℕ) → i < f.count → (q : Records) → told_line q ≡ line_at lines i → RuleRecords (rule_of q) q.nodes q.m q.k
    line_records i h q e =
        let a = lines_read in
        let x = entry (λ (l : Line). line_nodes l.tree) (a.above ++ a.last ∷ []) _ i _ (omega (arith, many)) in
        as_records (read_rule_lem x.of x.member (e ∙ ap (λ (z : FileAnswer). line_at z.lines i) a.same ∙ x.same))

    -- the last line's answer is the judge's
    pub after_acceptance : (q : Records) → told_line q ≡ line_at lines (f.count - 1) → (w : Word) (limit : ℕ) (old : List ℕ)
        → match_answer (rule_of q) w limit old ≡ judge_file_answer file w limit old
    after_acceptance q e w limit old =
        let a = lines_read in
        ap (λ (t : Tree). match_answer t w limit old)
        (rebuilt (read_rule_lem a.last (last_in a.above a.last) (e ∙ ap last_line a.same ∙ last_line_lem a.above a.last)))
        ∙ to_match file w limit old a.above a.last a.passed
