use Rattle.std.proofs.Common.{◌≡◌, ◌+◌, ◌*◌, ◌<◌, length, map, None}
use Rattle.sql_tokens.specs.declared.kinds.TokenKind.TheVariants as k
use Rattle.vo_spec.specs.Conditions.{condition_of}
use Rattle.sql_text.specs.Parsing.{left_of}
use Rattle.sql_text.specs.Queries.{prim, conj}
use Rattle.sql_text.proofs.Rounds.{more_of, with_front}
use Rattle.sql_text.proofs.parser.Parser.+cond.Given as goal

abbrev pub decreases-prim : goal.decreases-prim
decreases-prim l = 4 * l.self.now.levels + 1

abbrev pub decreases-negation : goal.decreases-negation
decreases-negation l = 4 * l.self.now.levels

abbrev pub decreases-condition_in_parens : goal.decreases-condition_in_parens
decreases-condition_in_parens l = 4 * l.self.now.levels

abbrev pub decreases-conj : goal.decreases-conj
decreases-conj l = 4 * l.self.now.levels + 2

abbrev pub decreases-disj : goal.decreases-disj
decreases-disj l = 4 * l.self.now.levels + 3

abbrev pub invariant-conj-loop-alloc : goal.invariant-conj-loop-alloc
invariant-conj-loop-alloc l =
    (l.self.list.now ≡ l.initial.self.list.now) × (l.self.levels ≡ l.initial.self.levels) × (0 < length l.parts.items)
    × (with_front (map condition_of l.parts.items) (more_of None k.And prim l.self.levels (left_of l.self))
    ≡ with_front (map condition_of l.initial.parts.items) (more_of None k.And prim l.initial.self.levels (left_of l.initial.self)))

abbrev pub decreases-conj-loop-alloc : goal.decreases-conj-loop-alloc
decreases-conj-loop-alloc l = length (left_of l.self)

abbrev pub invariant-disj-loop-alloc : goal.invariant-disj-loop-alloc
invariant-disj-loop-alloc l =
    (l.self.list.now ≡ l.initial.self.list.now) × (l.self.levels ≡ l.initial.self.levels) × (0 < length l.parts.items)
    × (with_front (map condition_of l.parts.items) (more_of None k.Or conj l.self.levels (left_of l.self))
    ≡ with_front (map condition_of l.initial.parts.items) (more_of None k.Or conj l.initial.self.levels (left_of l.initial.self)))

abbrev pub decreases-disj-loop-alloc : goal.decreases-disj-loop-alloc
decreases-disj-loop-alloc l = length (left_of l.self)
