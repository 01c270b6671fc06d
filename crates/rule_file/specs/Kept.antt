-- What is answered of a line that is kept. Assumes nothing.
use Rattle.rule_line.specs.Lines.{LineNodes, told_line}
use Rattle.rule_line.specs.Passed.{PassedLine}

abbrev pub kept_nodes : PassedLine → LineNodes
kept_nodes x = told_line x.rule.records
