-- The loop over the lines of a file. Assumes nothing.
use Prim.Native.Nat.{ℕ, suc, ◌+◌, ◌-◌, ◌≤◌, ◌<◌}
use native.Mathlib.Omega.{arith}
use native.Mathlib.Numerals.{add-one}
use mathlib.Core.Path.{◌≡◌, refl, sym, ap, ap₂, subst, ◌∙◌}
use mathlib.Core.List.{List, [], ◌∷◌, ◌++◌, map}
use lib.ListN.{length, take, set, length-append}
use lib.Seq.{take-suc-set}
use Rattle.std.specs.Prelude.{Ok, Err}
use Rattle.rule_line.specs.Lines.{Line, LineNodes, told_line, unused_lines}
use Rattle.rule_line.specs.Keeping.{Kept}
use Rattle.rule_line.specs.Passed.{PassedLine}
use Rattle.rule_line.specs.declared.Refusal.{Refusal}
use Rattle.rule_line.specs.declared.Refusal.TheVariants.{OtherForm}
use Rattle.verdict.specs.Verdicts.{accepted}
use Rattle.rule_file.specs.FileAnswer.{FileAnswer, told, file_values}
use Rattle.rule_file.specs.FileMeaning.{FileMeaning}
use Rattle.rule_file.specs.FileComputed.{refused, file_from, file_read, answered, file_answer}
use Rattle.rule_file.specs.Kept.{kept_nodes}
use Rattle.rule_file.specs.Turns.{Passes, TurnSays}
use Rattle.rule_file.specs.declared.accepted.RuleFile.{RuleFile}
use Rattle.rule_file.specs.declared.turn.Turn.{Turn}
use Rattle.rule_file.proofs.FileAnswered.{answer_means, finished}
use Rattle.rule_file.proofs.KeptLines.{kept_more, kept_length, kept_answered}

-- r lines have passed, and the rest of the file decides
pub record Going (file : List ℕ) (lines : List PassedLine) (r : ℕ) (rest : List ℕ) : Type 0 where
  pub ls : List Line
  pub kept : Kept (take r lines) ls
  pub count : length ls ≡ r
  pub on : file_from (16 - r) ls rest ≡ file_read file

pub with_meaning : {file : List ℕ} {a : FileAnswer} → a ≡ file_answer file → (a ≡ file_answer file) × FileMeaning file a
with_meaning {file} e = (e, subst (FileMeaning file) (sym e) (answer_means file))

module _ {file : List ℕ} {lines : List PassedLine} {r : ℕ} {rest : List ℕ} (g : Going file lines r rest) where
  pub few : r ≤ 16
  few = omega (arith, g.kept.few, g.count)

  -- a line is refused
  pub refused_here : (x : Refusal) → TurnSays rest g.ls (Err x) → file_values (Err (record { refusal = x; line = r + 1 })) ≡ file_answer file
  refused_here x t =
      let z : r + 1 ≡ length g.ls + 1 = omega (arith, g.count) in
      ap (λ (i : ℕ). file_values (Err (record { refusal = x; line = i }))) z
      ∙ ap answered (sym (t (16 - r) (omega (arith, g.count, few))) ∙ g.on)

  -- a line has passed
  module _ (t : Turn) (p : Passes rest g.ls t) where
    pub fewer : r < 16
    fewer = omega (arith, p.few, g.count)

    pub going_on : length lines ≡ 16 → Going file (set lines r t.line) (r + 1) t.rest.now
    going_on n =
        let e : 16 - r ≡ suc (16 - (r + 1)) = omega (arith, fewer) in
        let h : r < length lines = omega (arith, fewer) in
        let s : take (r + 1) (set lines r t.line) ≡ take r lines ++ t.line ∷ []
        = ap (λ (k : ℕ). take k (set lines r t.line)) (add-one r) ∙ take-suc-set lines r t.line h in
        record {
          ls = g.ls ++ p.line ∷ [];
          kept = subst (λ (x : List PassedLine). Kept x (g.ls ++ p.line ∷ [])) (sym s) (kept_more g.kept p);
          count = omega (arith, length-append g.ls (p.line ∷ []), g.count);
          on = sym (ap (λ (i : ℕ). file_from i g.ls rest) e ∙ p.step (16 - (r + 1))) ∙ g.on;
        }

  -- the file has ended
  module _ (h : length rest ≡ 0) where
    ended : file_from (16 - r) g.ls [] ≡ file_read file
    ended = ap (file_from (16 - r) g.ls) (sym (none rest h)) ∙ g.on
      where
        none : (x : List ℕ) → length x ≡ 0 → x ≡ []
        none [] e = refl
        none (b ∷ x) e = absurd (omega arith)

    pub nothing : r ≡ 0 → file_values (Err (record { refusal = OtherForm; line = 1 })) ≡ file_answer file
    unfolding file_from
    nothing e = ap answered (sym (none g.ls (g.count ∙ e)) ∙ ap (λ (i : ℕ). file_from (16 - i) g.ls []) (sym e) ∙ ended)
      where
        none : (ls : List Line) → length ls ≡ 0 → file_from 16 ls [] ≡ refused 16 1
        none [] z = refl
        none (l ∷ ls) z = absurd (omega arith)

    pub whole : (r ≡ 0 → ⊥) → (f : RuleFile) → f.count ≡ length (take r lines)
        → map told_line f.lines ≡ map kept_nodes (take r lines) ++ unused_lines (16 - length (take r lines)) → file_values (Ok f) ≡ file_answer file
    whole n f c a =
        let k = kept_length (take r lines) g.ls g.kept.each in
        let n' : 1 ≤ length g.ls = omega (arith, g.count) in
        ap₂ (λ (m : ℕ) (x : List LineNodes). told (accepted 0 0) m x) (c ∙ k)
        (a ∙ ap₂ (λ (x : List LineNodes) (m : ℕ). x ++ unused_lines (16 - m)) (kept_answered (take r lines) g.ls g.kept.each) k)
        ∙ ap answered (sym (finished (16 - r) g.ls n') ∙ ended)
