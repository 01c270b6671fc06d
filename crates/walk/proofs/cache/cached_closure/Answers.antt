-- `cached_closure` keeps what it worked out. Assumes nothing.
use mathlib.Core.Path.{◌≡◌, sym, subst, ◌∙◌}
use Prim.Native.Nat.{ℕ}
use mathlib.Core.List.{List}
use lib.ListN.{get_or}
use lib.Pointwise.{bytes_decides}
use Rattle.levels.specs.Sets.{AllLed}
use Rattle.walk.specs.Caches.{no_slot}
use Rattle.walk.proofs.Caching.{remember_law}
use Rattle.walk.proofs.cache.cached_closure.Goals as goal

pub returns-then-eq-clause-states : goal.returns-then-eq-clause-states
returns-then-eq-clause-states c =
    let slot = get_or c.args.cache.now c.args.j no_slot in
    let same : slot.set ≡ c.args.set.now = (bytes_decides _ _).0 (sym c.eq.ensures ∙ c.if-eq.true) in
    subst (λ (s : List ℕ). AllLed c.args.automaton.now.closed s slot.closure) same (c.requires.remembered c.args.j c.requires.j_bound)

pub returns-clause-cache : goal.returns-clause-cache
returns-clause-cache c =
    remember_law _ c.args.j c.requires.j_bound c.told-cache c.requires.remembered c.closure-closure.ensures
