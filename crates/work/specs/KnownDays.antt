-- The known days C1 to C12 of document 01, as one table with one claim, `KnownDays`.
-- Its proof is `known_days` in proofs/KnownDaysHold. Assumes nothing.
use Rattle.std.specs.Prelude.{◌↔◌, ℕ}
use mathlib.Core.List.{List, [], ◌∷◌, Memᴰ}
use Rattle.std.proofs.Math.Option.{Option, none, some}
use Prim.Native.String.{String}
use Rattle.event.specs.Event.{Word}
use Rattle.event.specs.Text.{bytes}
use Rattle.expression.specs.Tree.{Tree}
use Rattle.expression.specs.Grammar.{Alt, Reads}
use Rattle.work.specs.Span.{Obeys}
use Rattle.work.specs.Spans.{Spans}
use Rattle.work.specs.SizeOf.{SizeOf}
use Rattle.work.specs.Walk.{Collection}

pub record Day : Type 0 where
  pub rule : String
  pub word : String
  pub spans : Spans
  pub count : Option ℕ  -- 01: "A blank count is no part of its case."

abbrev all_six : Spans
all_six = (0, 0) ∷ (0, 1) ∷ (0, 2) ∷ (1, 1) ∷ (1, 2) ∷ (2, 2) ∷ []

abbrev pub days : List Day
days =
    record { rule = "1"; word = ""; spans = (0, 0) ∷ []; count = some 2 }  -- C1
    ∷ record { rule = "0"; word = "a"; spans = []; count = some 2 }  -- C2
    ∷ record { rule = "a"; word = ""; spans = []; count = some 1 }  -- C3
    ∷ record { rule = "!a"; word = "a"; spans = (0, 0) ∷ (1, 1) ∷ []; count = some 7 }  -- C4
    ∷ record { rule = "!0"; word = "ab"; spans = all_six; count = some 12 }  -- C5
    ∷ record { rule = "a*"; word = "aa"; spans = all_six; count = some 18 }  -- C6
    ∷ record { rule = "a&a"; word = "a"; spans = (0, 1) ∷ []; count = some 9 }  -- C7
    ∷ record { rule = "(a&ab)(bc|c)"; word = "abc"; spans = []; count = none }  -- C8
    ∷ record { rule = "a(bc|c)&ab(bc|c)"; word = "abc"; spans = (0, 3) ∷ []; count = none }  -- C9
    ∷ record { rule = "!ab"; word = "ab"; spans = (1, 2) ∷ []; count = none }  -- C10
    ∷ record { rule = "!(ab)"; word = "ab"; spans = (0, 0) ∷ (0, 1) ∷ (1, 1) ∷ (1, 2) ∷ (2, 2) ∷ []; count = none }  -- C11
    ∷ record { rule = "!a*"; word = "aa"; spans = []; count = none }  -- C12
    ∷ []

-- the count, where there is one, is the size of the collection of reached places
abbrev pub Counted : Word → Tree → Option ℕ → Type 0
Counted w t none = Unit {0}
Counted w t (some n) = SizeOf (Collection w t) n

-- the grammar reads the rule's text as a tree; the listed spans are those that obey it; the count is right
pub record Right (d : Day) : Type 0 where
  pub tree : Tree
  pub reads : Reads Alt 0 (bytes d.rule) tree
  pub spans : (i j : ℕ) → Memᴰ (i, j) d.spans ↔ Obeys (bytes d.word) tree i j
  pub count : Counted (bytes d.word) tree d.count

abbrev pub AllRight : List Day → Type 0
AllRight [] = Unit {0}
AllRight (d ∷ l) = Right d × AllRight l

-- the one claim
abbrev pub KnownDays : Type 0
KnownDays = AllRight days
