-- A job that has the same `S` lines as a listing. Assumes nothing.
use Rattle.std.specs.Prelude.{ℕ, ◌≤◌, ◌≡◌, List, ◌∷◌, ◌++◌, length}
use Rattle.event.specs.Event.{Word}
use Rattle.expression.specs.Tree.{Tree, size, specials}
use Rattle.work.specs.Spans.{Spans}
use Rattle.listing.specs.declared.Heading.{Heading}
use Rattle.listing.specs.Lines.{head_line, span_lines}
use Rattle.job.specs.JobMeaning.{Writes}

-- 01: "A job is one line `R`, tab, rule, newline, and then the day."
abbrev pub job_of : List ℕ → List ℕ → List ℕ
job_of rule file = 82 ∷ 9 ∷ rule ++ 10 ∷ file

-- 02 f): "Its count may be lower, and its `S` lines are the same": the program writes for the job s these spans behind an `H` line with the
-- same n, k and found, and an m and a count no higher, as the listing of a rule t has
pub record SameLines (w : Word) (t : Tree) (found count : ℕ) (spans : Spans) (s : List ℕ) : Type 0 where
  pub head : Heading
  pub writes : Writes s (head_line head ++ span_lines spans)
  pub events : head.n ≡ length w
  pub nodes : head.m ≤ size t
  pub special : head.k ≡ specials t
  pub same_found : head.found ≡ found
  pub lower_count : head.count ≤ count
