-- `level` comes to what is reached at one number. Assumes nothing.
use Rattle.walk.specs.Course.{course_of}
use Rattle.walk.proofs.Ready.{ready_of}
use Rattle.walk.proofs.LevelLaws.{level_begun, level_law, level_full}
use Rattle.walk.proofs.level.level.Goals as goal

pub saturate-requires-clause-begun : goal.saturate-requires-clause-begun
saturate-requires-clause-begun c =
    let p = c.requires in
    let a = c.args in
    level_begun (course_of a.automaton.now a.word.now a.table.now) (ready_of c.args.automaton.now p.room) a.j p.j_bound _ _ _ _ p.among p.full_2
    c.due_exits-begun.ensures c.add_to.ensures c.cached_closure-closure.ensures.states

pub returns-clause-states : goal.returns-clause-states
returns-clause-states c =
    let p = c.requires in
    let a = c.args in
    level_law (course_of a.automaton.now a.word.now a.table.now) (ready_of c.args.automaton.now p.room) a.j p.j_bound _ _ _ _ p.among p.full_2
    c.due_exits-begun.ensures c.add_to.ensures c.cached_closure-closure.ensures.states c.saturate.ensures

pub returns-clause-full : goal.returns-clause-full
returns-clause-full c =
    let p = c.requires in
    let a = c.args in
    level_full (course_of a.automaton.now a.word.now a.table.now) (ready_of c.args.automaton.now p.room) a.j p.j_bound _ _ _ _ p.among p.full_2
    c.due_exits-begun.ensures c.add_to.ensures c.cached_closure-closure.ensures.states c.saturate.ensures
