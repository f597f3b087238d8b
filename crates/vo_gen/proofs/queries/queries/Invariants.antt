use Rattle.std.proofs.Common.{◌≡◌, ◌+◌, ◌*◌, map}
use Rattle.std.specs.List.{range_with_len}
use Rattle.vo_gen.specs.Words.{word_of}
use Rattle.vo_gen.specs.Workload.{query, keys_for}
use Rattle.vo_gen.proofs.queries.queries.Given as goal

-- the queries so far are made
abbrev pub invariant-loop-j : goal.invariant-loop-j
invariant-loop-j l = record {
  drawn : l.words ≡ record l.fn.words { place = 2 * (l.n + l.j) };
  made : l.queries.items
      ≡ map (query (word_of l.fn.words.key) (keys_for l.n) l.n) (range_with_len 0 l.j);
}
