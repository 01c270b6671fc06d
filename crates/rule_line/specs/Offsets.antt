-- Where the nodes of a rule stand. Assumes nothing.
use Rattle.std.specs.Prelude.{ℕ, ◌≤◌, List, get_or}
use Rattle.expression.specs.declared.Kind.TheVariants.{Empty}
use Rattle.expression.specs.declared.Node.{Node}

abbrev pub no_node : Node
no_node = record { offset = 0; kind = Empty }

-- no record of a list has an offset above a number
abbrev pub OffsetsWithin : ℕ → List Node → Type 0
OffsetsWithin n ns = (i : ℕ) → (get_or ns i no_node).offset ≤ n
