-- What the scan has passed is the beginning of a sentence:
-- a state of the scan is kept with the parts of the grammar that stand open there. Assumes nothing.
use Prim.Native.Nat.{ℕ, zero, suc, ◌+◌, ◌≤◌}
use native.Mathlib.Omega.{arith}
use mathlib.Core.Path.{◌≡◌, refl, sym, ap, subst, subst₂, ◌∙◌}
use mathlib.Core.List.{List, [], ◌∷◌, ◌++◌, append_assoc, append-nil}
use lib.ListN.{length, length-append}
use lib.Dec.{T}
use Rattle.event.specs.Event.{is_event, Events}
use Rattle.event.specs.LetterSets.{letters_of}
use Rattle.expression.specs.Tree.{Tree, empty, letter}
use Rattle.expression.specs.Grammar.{Level, Alt, Conj, Seq, Pre, Post, Atom, Reads, alt_conj, alt_bar, conj_seq, conj_amp, seq_pre, seq_more}
use Rattle.expression.specs.Grammar.{pre_post, pre_bang, post_atom, post_star, atom_set, atom_empty, atom_group, Sentence, Viable}

-- the same text, at an offset and as a list that are written another way
moved : {l : Level} {o p : ℕ} {u v : List ℕ} {t : Tree} → o ≡ p → u ≡ v → Reads l o u t → Reads l p v t
moved {l} {t = t} e f r = subst₂ (λ (n : ℕ) (s : List ℕ). Reads l n s t) e f r

-- a text from the offset o on, after which a part makes an alternative: a Conj, a Seq, a Pre
pub data BeforeConj (o : ℕ) : List ℕ → Type 0 where
  start : BeforeConj o []
  bar : {u : List ℕ} {t : Tree} → Reads Alt o u t → BeforeConj o (u ++ 124 ∷ [])

pub data BeforeSeq (o : ℕ) : List ℕ → Type 0 where
  no_amp : {x : List ℕ} → BeforeConj o x → BeforeSeq o x
  amp : {x u : List ℕ} {t : Tree} → BeforeConj o x → Reads Conj (o + length x) u t → BeforeSeq o (x ++ (u ++ 38 ∷ []))

pub data BeforePre (o : ℕ) : List ℕ → Type 0 where
  no_more : {x : List ℕ} → BeforeSeq o x → BeforePre o x
  more : {x u : List ℕ} {t : Tree} → BeforeSeq o x → Reads Seq (o + length x) u t → BeforePre o (x ++ u)
  bang : {x : List ℕ} → BeforePre o x → BeforePre o (x ++ 33 ∷ [])

-- the text s from o on as a left part and a Seq, a left part and a Conj
record AtSeq (o : ℕ) (s : List ℕ) : Type 0 where
  left : List ℕ
  text : List ℕ
  tree : Tree
  whole : s ≡ left ++ text
  before : BeforeSeq o left
  reads : Reads Seq (o + length left) text tree

record AtConj (o : ℕ) (s : List ℕ) : Type 0 where
  left : List ℕ
  text : List ℕ
  tree : Tree
  whole : s ≡ left ++ text
  before : BeforeConj o left
  reads : Reads Conj (o + length left) text tree

to_seq : {o : ℕ} {x u : List ℕ} {t : Tree} → BeforePre o x → Reads Pre (o + length x) u t → AtSeq o (x ++ u)
to_seq {x = x} {u = u} (no_more b) r = record { left = x; text = u; tree = _; whole = refl; before = b; reads = seq_pre r }
to_seq {o} {u = u} (more {x = x} {u = v} b q) r =
    record {
      left = x;
      text = v ++ u;
      tree = _;
      whole = append_assoc x v u;
      before = b;
      reads = seq_more q
          (moved (omega (arith, length-append x v)) refl r);
    }
to_seq {o} {u = u} (bang {x = x} b) r =
    subst (AtSeq o) (sym (append_assoc x (33 ∷ []) u)) (to_seq b (pre_bang (moved (omega (arith, length-append x (33 ∷ []))) refl r)))

to_conj : {o : ℕ} {x u : List ℕ} {t : Tree} → BeforeSeq o x → Reads Seq (o + length x) u t → AtConj o (x ++ u)
to_conj {x = x} {u = u} (no_amp b) r = record { left = x; text = u; tree = _; whole = refl; before = b; reads = conj_seq r }
to_conj {o} {u = u} (amp {x = x} {u = v} b q) r =
    record {
      left = x;
      text = v ++ 38 ∷ u;
      tree = _;
      whole = simp append_assoc;
      before = b;
      reads = conj_amp q (moved (omega (arith, length-append x (v ++ 38 ∷ []), length-append v (38 ∷ []))) refl r);
    }

to_alt : {o : ℕ} {x u : List ℕ} {t : Tree} → BeforeConj o x → Reads Conj (o + length x) u t → (r : Tree) × Reads Alt o (x ++ u) r
to_alt {o} start r = (_, alt_conj {o = o} (moved (omega arith) refl r))
to_alt {o} {u = u} (bar {u = v} q) r = (
  _,
  moved refl (simp append_assoc)
      (alt_bar q (moved (omega (arith, length-append v (124 ∷ []))) refl r)),
)

-- d open parentheses: the text up to the last of them
pub data Open : ℕ → List ℕ → Type 0 where
  none : Open 0 []
  one : {d : ℕ} {y x : List ℕ} → Open d y → BeforePre (length y) x → Open (suc d) (y ++ (x ++ 40 ∷ []))

-- the scan expects an operand after p; an operand has just ended at the end of p
pub record Expects (d : ℕ) (p : List ℕ) : Type 0 where
  pub outer : List ℕ
  pub left : List ℕ
  pub whole : p ≡ outer ++ left
  pub open' : Open d outer
  pub before : BeforePre (length outer) left

pub record Ended (d : ℕ) (p : List ℕ) : Type 0 where
  pub outer : List ℕ
  pub left : List ℕ
  pub text : List ℕ
  pub tree : Tree
  pub whole : p ≡ outer ++ (left ++ text)
  pub open' : Open d outer
  pub before : BeforePre (length outer) left
  pub reads : Reads Post (length outer + length left) text tree

-- the scan has passed letters of a bracket that stands where an operand is expected
pub record Inside (d : ℕ) (p : List ℕ) : Type 0 where
  pub before : List ℕ
  pub letters : List ℕ
  pub whole : p ≡ before ++ 91 ∷ letters
  pub events : Events letters
  pub expects : Expects d before

-- where an operand is expected
pub atom_next : (u : List ℕ) (d : ℕ) (p : List ℕ) (t : ℕ → Tree) → ((o : ℕ) → Reads Atom o u (t o)) → Expects d p → Ended d (p ++ u)
atom_next u d p t a e =
    record {
      outer = e.outer;
      left = e.left;
      text = u;
      tree = t (length e.outer + length e.left);
      whole = ap (λ (s : List ℕ). s ++ u) e.whole ∙ append_assoc e.outer e.left u;
      open' = e.open';
      before = e.before;
      reads = post_atom (a (length e.outer + length e.left));
    }

pub bang_next : (d : ℕ) (p : List ℕ) → Expects d p → Expects d (p ++ 33 ∷ [])
bang_next d p e =
    record {
      outer = e.outer;
      left = e.left ++ 33 ∷ [];
      whole = ap (λ (s : List ℕ). s ++ 33 ∷ []) e.whole ∙ append_assoc e.outer e.left (33 ∷ []);
      open' = e.open';
      before = bang e.before;
    }

pub open_next : (d : ℕ) (p : List ℕ) → Expects d p → Expects (suc d) (p ++ 40 ∷ [])
open_next d p e =
    record {
      outer = e.outer ++ (e.left ++ 40 ∷ []);
      left = [];
      whole = ap (λ (s : List ℕ). s ++ 40 ∷ []) e.whole ∙ append_assoc e.outer e.left (40 ∷ []) ∙ sym (append-nil _);
      open' = one e.open' e.before;
      before = no_more (no_amp start);
    }

-- inside brackets
pub bracket_next : (d : ℕ) (p : List ℕ) → Expects d p → Inside d (p ++ 91 ∷ [])
bracket_next d p e = record { before = p; letters = []; whole = refl; events = tt; expects = e }

pub events_append : (u v : List ℕ) → Events u → Events v → Events (u ++ v)
events_append [] v p q = q
events_append (b ∷ u) v p q = (p.0, events_append u v p.1 q)

pub letter_next : (b d : ℕ) (p : List ℕ) → T (is_event b) → Inside d p → (i : Inside d (p ++ b ∷ [])) × (1 ≤ length i.letters)
letter_next b d p h e = (
  record {
    before = e.before;
    letters = e.letters ++ b ∷ [];
    whole = ap (λ (s : List ℕ). s ++ b ∷ []) e.whole ∙ append_assoc e.before (91 ∷ e.letters) (b ∷ []);
    events = events_append e.letters (b ∷ []) e.events (h, tt);
    expects = e.expects;
  },
  omega (arith, length-append e.letters (b ∷ [])),
)

pub set_next : (d : ℕ) (p : List ℕ) (e : Inside d p) → 1 ≤ length e.letters → Ended d (p ++ 93 ∷ [])
set_next d p e h =
    let u = 91 ∷ e.letters ++ 93 ∷ [] in
    subst (Ended d) (sym (ap (λ (s : List ℕ). s ++ 93 ∷ []) e.whole ∙ append_assoc e.before (91 ∷ e.letters) (93 ∷ [])))
    (atom_next u d e.before (λ o. letter o (letters_of e.letters)) (λ o. atom_set e.letters h e.events) e.expects)

-- after an operand
pub star_next : (d : ℕ) (p : List ℕ) → Ended d p → Ended d (p ++ 42 ∷ [])
star_next d p e =
    record {
      outer = e.outer;
      left = e.left;
      text = e.text ++ 42 ∷ [];
      tree = _;
      whole = ap (λ (s : List ℕ). s ++ 42 ∷ []) e.whole ∙ simp append_assoc;
      open' = e.open';
      before = e.before;
      reads = post_star e.reads;
    }

-- a concatenation is expected to go on
pub again : (d : ℕ) (p : List ℕ) → Ended d p → Expects d p
again d p e =
    let q = to_seq e.before (pre_post e.reads) in
    record {
      outer = e.outer;
      left = q.left ++ q.text;
      whole = e.whole ∙ ap (λ (s : List ℕ). e.outer ++ s) q.whole;
      open' = e.open';
      before = more q.before q.reads;
    }

pub amp_next : (d : ℕ) (p : List ℕ) → Ended d p → Expects d (p ++ 38 ∷ [])
amp_next d p e =
    let q = to_seq e.before (pre_post e.reads) in
    let c = to_conj q.before q.reads in
    record {
      outer = e.outer;
      left = c.left ++ (c.text ++ 38 ∷ []);
      whole = ap (λ (s : List ℕ). s ++ 38 ∷ []) (e.whole ∙ ap (λ (s : List ℕ). e.outer ++ s) (q.whole ∙ c.whole)) ∙ simp append_assoc;
      open' = e.open';
      before = no_more (amp c.before c.reads);
    }

-- the whole of what stands inside the last open parenthesis
whole_alt : (d : ℕ) (p : List ℕ) (e : Ended d p) → (t : Tree) × Reads Alt (length e.outer) (e.left ++ e.text) t
whole_alt d p e =
    let q = to_seq e.before (pre_post e.reads) in
    let c = to_conj q.before q.reads in
    let a = to_alt c.before c.reads in
    (a.0, moved refl (sym (q.whole ∙ c.whole)) a.1)

pub bar_next : (d : ℕ) (p : List ℕ) → Ended d p → Expects d (p ++ 124 ∷ [])
bar_next d p e =
    record {
      outer = e.outer;
      left = (e.left ++ e.text) ++ 124 ∷ [];
      whole = ap (λ (s : List ℕ). s ++ 124 ∷ []) e.whole ∙ append_assoc e.outer (e.left ++ e.text) (124 ∷ []);
      open' = e.open';
      before = no_more (no_amp (bar (whole_alt d p e).1));
    }

-- the parenthesis that is closed
closed : (d : ℕ) (y u : List ℕ) (t : Tree) → Open (suc d) y → Reads Alt (length y) u t → Ended d ((y ++ u) ++ 41 ∷ [])
closed d y u t (one {y = z} {x = x} o b) r =
    record {
      outer = z;
      left = x;
      text = 40 ∷ u ++ 41 ∷ [];
      tree = t;
      whole = simp append_assoc;
      open' = o;
      before = b;
      reads = post_atom (atom_group {o = length z + length x}
          (moved (omega (arith, length-append z (x ++ 40 ∷ []), length-append x (40 ∷ []))) refl r));
    }

pub close_next : (d : ℕ) (p : List ℕ) → Ended (suc d) p → Ended d (p ++ 41 ∷ [])
close_next d p e =
    let a = whole_alt (suc d) p e in
    subst (λ (s : List ℕ). Ended d (s ++ 41 ∷ [])) (sym e.whole) (closed d e.outer (e.left ++ e.text) a.0 e.open' a.1)

-- what stands open can be closed
at_bottom : (p y u : List ℕ) (t : Tree) → Open 0 y → p ≡ y ++ u → Reads Alt (length y) u t → Sentence p
at_bottom p y u t none e r = (t, moved refl (sym e) r)

pub ended_sentence : (p : List ℕ) → Ended 0 p → Sentence p
ended_sentence p e = let a = whole_alt 0 p e in at_bottom p e.outer (e.left ++ e.text) a.0 e.open' e.whole a.1

shorter : (p x : List ℕ) → Viable (p ++ x) → Viable p
shorter p x v = (x ++ v.0, (v.1.0, moved refl (append_assoc p x v.0) v.1.1))

pub ended_viable : (d : ℕ) (p : List ℕ) → Ended d p → Viable p
ended_viable zero p e = let s = ended_sentence p e in ([], (s.0, moved refl (sym (append-nil p)) s.1))
ended_viable (suc d) p e = shorter p (41 ∷ []) (ended_viable d (p ++ 41 ∷ []) (close_next d p e))

pub expects_viable : (d : ℕ) (p : List ℕ) → Expects d p → Viable p
expects_viable d p e = shorter p (48 ∷ []) (ended_viable d (p ++ 48 ∷ []) (atom_next (48 ∷ []) d p empty (λ o. atom_empty) e))

-- a bracket can be closed, after a letter more
pub letters_viable : (d : ℕ) (p : List ℕ) (e : Inside d p) → 1 ≤ length e.letters → Viable p
letters_viable d p e h = shorter p (93 ∷ []) (ended_viable d (p ++ 93 ∷ []) (set_next d p e h))

pub opened_viable : (d : ℕ) (p : List ℕ) → Inside d p → Viable p
unfolding is_event
opened_viable d p e =
    let i = letter_next 97 d p tt e in
    shorter p (97 ∷ []) (letters_viable d (p ++ 97 ∷ []) i.0 i.1)
