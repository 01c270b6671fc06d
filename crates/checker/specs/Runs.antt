-- What a run of the program does to its input and its output. Assumes nothing.
use Rattle.std.specs.Prelude.{ℕ, Option, Some, None, ◌<◌, ◌≤◌, List, length, take}
use Rattle.std.specs.Io.KnownBytes.{Keeps, Consumes, Appends, IsAtEnd}
use Rattle.job.specs.JobMeaning.{Writes}

-- the job s is what the input gave: at most 2,809 bytes, and fewer only where it has no more
pub record JobRead (before after : Option (List ℕ)) (s : List ℕ) : Type 0 where
  pub read : Consumes before after s
  pub most : length s ≤ 2809
  pub end : length s < 2809 → IsAtEnd after

-- the first n bytes of what is to be written for the job that was read went out, and nothing else did
pub record Listed (input_before input_after output_before output_after : Option (List ℕ)) (n : ℕ) : Type 0 where
  pub job : List ℕ
  pub job_read : JobRead input_before input_after job
  pub text : List ℕ
  pub writes : Writes job text
  pub within : n ≤ length text
  pub put : Appends output_before output_after (take n text)

-- a run: where the input failed, nothing was written
abbrev pub Ran : Option (List ℕ) → Option (List ℕ) → Option (List ℕ) → Option (List ℕ) → Option ℕ → Type 0
Ran input_before input_after output_before output_after (Some n) = Listed input_before input_after output_before output_after n
Ran input_before input_after output_before output_after None = Keeps output_before output_after
