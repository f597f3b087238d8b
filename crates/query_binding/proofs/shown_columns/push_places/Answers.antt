use Rattle.std.proofs.Common.{◌++◌, [], ◌∷◌, map, ap, sym, ◌∙◌}
use Rattle.std.proofs.lemmas.List.{map-append, append_assoc}
use Rattle.query_binding.specs.HeldSources.{place_seen}
use Rattle.query_binding.specs.ShownColumns.{column_of, places_until}
use Rattle.query_binding.proofs.ShownLaws.{places_more}
use Rattle.query_binding.proofs.shown_columns.push_places.Goals as goal

pub loop-column-preserved : goal.loop-column-preserved
loop-column-preserved c =
    let bound_source = c.args.bound_source in
    let column = c.loop-column.column in
    let last = column_of bound_source column ∷ [] in
    ap (map place_seen) c.in_ok-push.ensures.items
    ∙ map-append place_seen c.loop-column.out.items (record { bound_source = bound_source; column = column } ∷ [])
    ∙ ap (λ places. places ++ last) c.loop-column.invariant
    ∙ append_assoc (map place_seen c.args.out.now.items) (places_until bound_source column) last
    ∙ ap (λ places. map place_seen c.args.out.now.items ++ places) (sym (places_more bound_source column))
