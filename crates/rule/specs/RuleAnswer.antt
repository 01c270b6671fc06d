-- The values of the rule reader's answers, by documents 01, 02 e) and 02 f). Assumes nothing.
use Rattle.std.specs.Prelude.{ℕ, ◌-◌, List, ◌++◌, Bool, ◌||◌, eqb, replicate, Result, Ok, Err}
use Rattle.event.specs.Event.{is_event}
use Rattle.expression.specs.Tree.{Tree, size, specials, records}
use Rattle.expression.specs.declared.Kind.TheVariants.{Empty}
use Rattle.expression.specs.declared.Node.{Node}
use Rattle.expression.specs.declared.records.Records.{Records}
use Rattle.verdict.specs.Verdicts as verdict
use Rattle.verdict.specs.declared.Verdict.{Verdict}
use Rattle.rule.specs.declared.Refusal.{Refusal}
use Rattle.rule.specs.declared.Refusal.TheVariants as why

-- 01: "An answer carries number (0 if accepted), place, found and count; the rule reader's also m, k and the m records".
-- The code's answer has 64 records.
pub record RuleAnswer : Type 0 where
  pub number : ℕ
  pub place : ℕ
  pub found : ℕ
  pub count : ℕ
  pub m : ℕ
  pub k : ℕ
  pub nodes : List Node

-- 01: "A rule is a text .. from: the letters, `0` .., `1` .., `|` .., `&` .., `!` .., `*` .., `(` and `)`";
-- 02 e): "Number 3 no longer covers the bytes `[`, `]` and `.`."
abbrev pub is_rule_byte : ℕ → Bool
is_rule_byte b =
    is_event b || eqb b 48 || eqb b 49 || eqb b 124 || eqb b 38 || eqb b 33 || eqb b 42 || eqb b 40 || eqb b 41 || eqb b 91 || eqb b 93 || eqb b 46

-- what stands in records that no node fills, which 01 leaves free: the kind of `0`, at offset 0. The rule `0` has a record that looks
-- the same; m tells them apart.
abbrev pub unused : ℕ → List Node
unused n = replicate n (record { offset = 0; kind = Empty })

-- 01: "The two readers' found and count are always 0."
abbrev pub values : ℕ → ℕ → ℕ → ℕ → List Node → RuleAnswer
values number place m k ns = record { number = number; place = place; found = 0; count = 0; m = m; k = k; nodes = ns }

-- 01: m, k and the records are "all 0 or absent on refusal"
abbrev pub refusal : ℕ → ℕ → RuleAnswer
refusal number place = values number place 0 0 (unused 64)

-- the records of a reading, and those that no node fills
abbrev pub nodes_for : Tree → List Node
nodes_for t = records t ++ unused (64 - size t)

abbrev pub acceptance : Tree → RuleAnswer
acceptance t = values 0 0 (size t) (specials t) (nodes_for t)

-- 01, 02 e), 02 f): number and place of each refusal of the row "Rule text"
abbrev pub refusal_verdict : Refusal → Verdict
refusal_verdict why.EmptyText = verdict.refused 1 0
refusal_verdict why.LongText = verdict.refused 2 0
refusal_verdict (why.ForeignByte n) = verdict.refused 3 n
refusal_verdict (why.NoSentence n) = verdict.refused 4 n
refusal_verdict (why.UnorderedSet n) = verdict.refused 20 n
refusal_verdict (why.DoubleStar n) = verdict.refused 21 n
refusal_verdict why.ManyNodes = verdict.refused 5 0
refusal_verdict why.ManySpecials = verdict.refused 6 0

-- number, place, found and count of what the code answers
abbrev pub outcome_verdict : Result Records Refusal → Verdict
outcome_verdict (Ok r) = verdict.accepted 0 0
outcome_verdict (Err r) = refusal_verdict r

-- a verdict, with m, k and the records
abbrev pub told : Verdict → ℕ → ℕ → List Node → RuleAnswer
told v m k ns =
    record { number = v.number; place = v.place; found = v.found; count = v.count; m = m; k = k; nodes = ns }

-- the values of what the code answers: a refusal has no m, no k and no records
abbrev pub rule_values : Result Records Refusal → RuleAnswer
rule_values (Ok r) = told (verdict.accepted 0 0) r.m r.k r.nodes
rule_values (Err r) = told (refusal_verdict r) 0 0 (unused 64)
