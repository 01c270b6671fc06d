-- The known days hold: what is worked out has the meanings by the general theorems, and is what the table says. Assumes nothing.
use mathlib.Core.Path.{subst}
use mathlib.Core.List.{List, [], ◌∷◌, map}
use mathlib.Core.Option.{Option, none, some}
use Prim.Native.Nat.{ℕ}
use lib.Dec.{T}
use Rattle.event.specs.Event.{Word}
use Rattle.event.specs.Text.{bytes}
use Rattle.event.proofs.Tests.{and_split}
use Rattle.expression.specs.Tree.{Tree}
use Rattle.expression.specs.TreeOf.{tree_of}
use Rattle.expression.specs.Scan.{is_sentence}
use Rattle.expression.proofs.OneReading.{sentence_reads}
use Rattle.work.specs.Count.{full_count}
use Rattle.work.specs.KnownDays.{Day, days, Counted, Right, AllRight, KnownDays}
use Rattle.work.proofs.DaysWorked.{recount, worked, sentences, days_sentences, days_worked}
use Rattle.work.proofs.Listed.{listed}
use Rattle.work.proofs.WorkSize.{collection_size}

recounted : (w : Word) (t : Tree) (c : Option ℕ) → Counted w t (recount c (full_count w t))
recounted w t none = tt
recounted w t (some n) = collection_size w t

worked_right : (d : Day) → T (is_sentence (bytes d.rule)) → Right (worked d)
worked_right d h =
    record {
      tree = tree_of (bytes d.rule);
      reads = sentence_reads (bytes d.rule) h;
      spans = λ i j. listed (bytes d.word) (tree_of (bytes d.rule)) i j;
      count = recounted (bytes d.word) (tree_of (bytes d.rule)) d.count;
    }

all_right : (l : List Day) → T (sentences l) → AllRight (map worked l)
all_right [] h = tt
all_right (d ∷ l) h = let p = and_split (is_sentence (bytes d.rule)) (sentences l) h in (worked_right d p.0, all_right l p.1)

pub known_days : KnownDays
known_days = subst AllRight days_worked (all_right days days_sentences)
