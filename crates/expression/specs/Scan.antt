-- The scan of a rule text: one byte after another.
-- That it finds exactly the sentences is `scan_right` in proofs/ScanDecides. Assumes nothing.
use Rattle.std.specs.Prelude.{ℕ, ◌+◌, ◌-◌, ◌≡◌, List, [], ◌∷◌, Bool, true, false, cond, eqb, Option, Some, None, Result, Ok, Err}
use Rattle.expression.specs.Tree.{Tree, size, specials}
use Rattle.expression.specs.Grammar.{Alt, Reads, Sentence, Longest}
use Rattle.event.specs.Event.{is_event}
use Rattle.expression.specs.Bytes.{is_leaf}
use Rattle.expression.specs.declared.Stage.{Stage}
use Rattle.expression.specs.declared.Stage.TheVariants.{Operand, Ended, Opened, Letters}
use Rattle.expression.specs.declared.ScanState.{ScanState}
use Rattle.expression.specs.declared.Size.{Size}

-- one byte's step: the next state, or none where no sentence begins so
abbrev pub ScanStep : Type 0
ScanStep = Option ScanState

-- what a scan finds: a sentence with its numbers of nodes and of special nodes, or the place where it breaks off
abbrev pub ScanResult : Type 0
ScanResult = Result Size ℕ

abbrev pub counted : {E : Type 0} → ℕ → ℕ → Result Size E
counted m k = Ok (record { m = m; k = k })

-- the next state
abbrev pub to : ℕ → Stage → ℕ → ℕ → ScanStep
to d a m k = Some (record { depth = d; stage = a; nodes = m; specials = k })

-- the step after an operand, and where an operand is expected
abbrev pub step_after : ℕ → ℕ → ℕ → ℕ → ScanStep
step_after d m k b =
    cond (eqb b 42) (to d Ended (m + 1) k)
    (cond (eqb b 124) (to d Operand (m + 1) k)
    (cond (eqb b 38) (to d Operand (m + 1) (k + 1))
    (cond (eqb b 41) (cond (eqb d 0) None (to (d - 1) Ended m k))
    (cond (eqb b 33) (to d Operand (m + 2) (k + 1))
    (cond (eqb b 40) (to (d + 1) Operand (m + 1) k)
    (cond (eqb b 91) (to d Opened (m + 2) k)
    (cond (is_leaf b) (to d Ended (m + 2) k) None)))))))

abbrev pub step_before : ℕ → ℕ → ℕ → ℕ → ScanStep
step_before d m k b =
    cond (eqb b 33) (to d Operand (m + 1) (k + 1))
    (cond (eqb b 40) (to (d + 1) Operand m k)
    (cond (eqb b 91) (to d Opened (m + 1) k)
    (cond (is_leaf b) (to d Ended (m + 1) k) None)))

-- the step inside brackets: where a letter is expected, and after one
abbrev pub step_opened : ℕ → ℕ → ℕ → ℕ → ScanStep
step_opened d m k b = cond (is_event b) (to d Letters m k) None

abbrev pub step_letters : ℕ → ℕ → ℕ → ℕ → ScanStep
step_letters d m k b = cond (eqb b 93) (to d Ended m k) (step_opened d m k b)

abbrev pub step_at : Stage → ℕ → ℕ → ℕ → ℕ → ScanStep
step_at Operand = step_before
step_at Ended = step_after
step_at Opened = step_opened
step_at Letters = step_letters

abbrev pub step_of : ScanState → ℕ → ScanStep
step_of q b = step_at q.stage q.depth q.nodes q.specials b

-- the end of the text
abbrev pub finish_at : Stage → ℕ → ScanState → ScanResult
finish_at Operand i q = Err i
finish_at Ended i q = cond (eqb q.depth 0) (counted q.nodes q.specials) (Err i)
finish_at Opened i q = Err i
finish_at Letters i q = Err i

abbrev pub finish : ℕ → ScanState → ScanResult
finish i q = finish_at q.stage i q

-- what follows a step: the place where it was stuck, or the rest of the text
abbrev pub after_step : (ℕ → ScanState → ScanResult) → ℕ → ScanStep → ScanResult
after_step rest i None = Err i
after_step rest i (Some p) = rest (i + 1) p

unfoldable pub scan_from : List ℕ → ℕ → ScanState → ScanResult
scan_from [] i q = finish i q
scan_from (b ∷ s) i q = after_step (scan_from s) i (step_of q b)

abbrev pub scanned : List ℕ → ScanResult
scanned s = scan_from s 0 (record { depth = 0; stage = Operand; nodes = 0; specials = 0 })

-- s is a sentence of m nodes, k of them special
pub record SentenceOf (s : List ℕ) (m k : ℕ) : Type 0 where
  pub tree : Tree
  pub reads : Reads Alt 0 s tree
  pub nodes : m ≡ size tree
  pub special : k ≡ specials tree

-- s is no sentence, and n is the length of its longest viable beginning
pub record BrokenAt (s : List ℕ) (n : ℕ) : Type 0 where
  pub none_such : Sentence s → ⊥
  pub place : Longest s n

-- what a result of the scan says of the text
abbrev pub Means : List ℕ → ScanResult → Type 0
Means s (Ok z) = SentenceOf s z.m z.k
Means s (Err n) = BrokenAt s n

-- the scan finds a sentence
abbrev pub finds : ScanResult → Bool
finds (Ok z) = true
finds (Err i) = false

abbrev pub is_sentence : List ℕ → Bool
is_sentence s = finds (scanned s)
