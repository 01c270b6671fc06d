-- One line's turn: from what the code finds of a line to `file_from`. Assumes nothing.
use Prim.Native.Nat.{ℕ, zero, suc, ◌+◌, ◌≤◌, ◌<◌}
use native.Mathlib.Omega.{arith}
use mathlib.Core.Path.{◌≡◌, refl, sym, subst}
use mathlib.Core.Bool.{true, false}
use mathlib.Core.List.{List}
use lib.ListN.{length, take, drop}
use borrow.Author.Tests.{ne_eqb}
use Rattle.rule_line.specs.Lines.{Line}
use Rattle.rule_line.specs.LineMeaning.{Begins, AtRule}
use Rattle.rule_line.specs.LineComputed.{has, is_line, name_of, body_of, rule_of, bad, good, judged}
use Rattle.rule_line.specs.Coding.{FieldsOf}
use Rattle.rule_line.specs.Keeping.{PassedAs}
use Rattle.rule_line.specs.declared.PassedRule.{PassedRule}
use Rattle.rule_line.specs.declared.line.LineFields.{LineFields}
use Rattle.rule_line.proofs.LineLaws.{line_found, line_split}
use Rattle.rule_line.proofs.LineNames.{unlike, has_name, has_stands, stands_has}
use Rattle.rule_file.specs.FileMeaning as meaning
use Rattle.rule_file.specs.FileComputed.{refused, file_from}
use Rattle.rule_file.specs.Turns.{Passes}
use Rattle.rule_file.proofs.FileAnswered.{at_rule, at_taken, at_other}

module _ (text : List ℕ) (ls : List Line) where
  pub many_lines : 1 ≤ length text → length ls ≡ 16 → (k : ℕ) → k + length ls ≡ 16 → file_from k ls text ≡ refused 19 (meaning.at ls)
  unfolding file_from
  many_lines h e zero g =
      let n : length text ≡ 0 → ⊥ = λ z. omega arith in
      rw (ne_eqb (length text) 0 n)
  many_lines h e (suc k) g = absurd (omega arith)

  pub other_form : 1 ≤ length text → length ls < 16 → is_line text ≡ false → (k : ℕ) → k + length ls ≡ 16
      → file_from k ls text ≡ refused 16 (meaning.at ls)
  other_form h l e zero g = absurd (omega arith)
  other_form h l e (suc k) g = at_other k ls text h (λ n s more b. unlike (line_split b).line e)

  -- the line at the front has these fields
  module _ {f : LineFields} (w : FieldsOf text f) (l : length ls < 16) where
    begins : Begins text f.name.now f.rule.now f.rest.now
    begins =
        subst (λ (n : List ℕ). Begins text n f.rule.now f.rest.now) (sym w.name)
        (subst (λ (s : List ℕ). Begins text (take (name_of text) (drop 2 text)) s f.rest.now) (sym w.rule)
        (subst (λ (m : List ℕ). Begins text (take (name_of text) (drop 2 text)) (take (rule_of text) (body_of text)) m) (sym w.rest)
        (line_found text w.line)))

    pub name_taken : has ls f.name.now ≡ true → (k : ℕ) → k + length ls ≡ 16 → file_from k ls text ≡ refused 18 (meaning.at ls)
    name_taken i zero g = absurd (omega arith)
    name_taken i (suc k) g = at_taken k ls text begins (stands_has (has_stands ls f.name.now i))

    module _ (i : has ls f.name.now ≡ false) where
      at_line : AtRule ls text f.name.now f.rule.now f.rest.now
      at_line = record { few = l; begins = begins; free = λ x. unlike (has_name ls f.name.now x) i }

      pub rule_refused : (x : ℕ) → judged ls f.rule.now ≡ bad x → (k : ℕ) → k + length ls ≡ 16 → file_from k ls text ≡ refused x (meaning.at ls)
      rule_refused x j zero g = absurd (omega arith)
      rule_refused x j (suc k) g = at_rule k ls text at_line (bad x) j

      pub line_passes : (q : PassedRule) → PassedAs ls f.rule.now q
          → Passes text ls (record { line = record { name = f.name; rule = q }; rest = f.rest })
      line_passes q p =
          record {
            line = record { name = f.name.now; text = p.text; tree = p.tree };
            few = l;
            step = λ k. at_rule k ls text at_line (good p.text p.tree) p.same;
            shorter = w.shorter;
            keeps = record { name = refl; long = p.long; stored = p.stored };
            free = i;
            reads = p.reads;
            most = p.few;
            most_special = p.few_special;
            bound = p.bound;
          }
