use Rattle.std.proofs.Common.{◌≡◌, map, take}
use Rattle.vo_spec.specs.Results.{ref_title}
use Rattle.query_binding.proofs.headers.ref_titles.Given as goal

abbrev pub invariant-loop-reference : goal.invariant-loop-reference
invariant-loop-reference l = l.titles.items ≡ map ref_title (take l.reference-index l.references)
