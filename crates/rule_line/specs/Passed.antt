-- A line that has passed, as the code keeps it. Assumes nothing.
use Rattle.rule_line.specs.declared.NamedLine.{NamedLine}
use Rattle.rule_line.specs.declared.PassedRule.{PassedRule}

-- the code's type of that name, which is an alias
abbrev pub PassedLine : Type 0
PassedLine = NamedLine PassedRule
