-- Refusals and acceptances, in the values of document 01. Assumes nothing.
use Rattle.std.specs.Prelude.{ℕ}
use Rattle.verdict.specs.declared.Verdict.{Verdict}

-- 01: "on refusal found and count are 0 unless said"
abbrev pub refused : ℕ → ℕ → Verdict
refused number place = record { number = number; place = place; found = 0; count = 0 }

-- 01: "number (0 if accepted)", "Unnamed places are 0"
abbrev pub accepted : ℕ → ℕ → Verdict
accepted found count = record { number = 0; place = 0; found = found; count = count }
