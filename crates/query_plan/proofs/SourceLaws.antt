-- A query with a join has two sources.
use Rattle.std.proofs.Common.{◌≡◌, List, ◌∷◌, Option, Some, None, is_some, length, map, refl, ap, arith, ◌∙◌}
use Rattle.std.specs.Prelude.{◌==◌, false, option_map, option_to_list}
use Rattle.vo_spec.specs.declared.queries.Join.{Join}
use Rattle.vo_spec.specs.Tables.{TableHeader}
use Rattle.vo_spec.specs.Conditions.{Query}
use Rattle.vo_spec.specs.Results.{ColumnPlace, bound_source_of, bound_sources}
use Rattle.query_binding.specs.HeldSources.{bound_source_seen, bound_sources_seen}
use Rattle.query_binding.specs.declared.bound_sources.BoundSource.{BoundSource as HeldBoundSource}
use Rattle.query_binding.specs.declared.bound_sources.BoundSources.{BoundSources}
use Rattle.query_plan.specs.declared.bound_query.BoundJoin.{BoundJoin}
use Rattle.query_plan.specs.BoundQueries.{bound_join}
use Rattle.query_plan.specs.declared.bound_query.Query.{Query as HeldQuery}
use Rattle.query_plan.specs.BoundViews.{join_seen, query_seen}

-- there is a right source where there is a join
sources_same : (hs : List TableHeader) (r : Option HeldBoundSource) (j : Option Join)
    → length (option_to_list (option_map bound_source_seen r)) ≡ length (map (bound_source_of hs) (option_to_list (option_map (λ (k : Join). k.right) j))) → is_some j ≡ is_some r
sources_same hs None None e = refl
sources_same hs (Some r) (Some j) e = refl
sources_same hs None (Some j) e = absurd (omega arith)
sources_same hs (Some r) None e = absurd (omega arith)

mapped_same : {A B C : Type 0} (f : A → C) (g : B → C) (a : Option A) (b : Option B) → option_map f a ≡ option_map g b → is_some a ≡ is_some b
mapped_same f g None None e = refl
mapped_same f g (Some a) (Some b) e = refl
mapped_same f g None (Some b) e = absurd (cc)
mapped_same f g (Some a) None e = absurd (cc)

pub sources_joined : (s : BoundSources) (hs : List TableHeader) (q : Query) (j : Option BoundJoin) → bound_sources_seen s ≡ bound_sources hs q
    → option_map join_seen j ≡ option_map (bound_join (bound_sources_seen s)) q.join → is_some j ≡ is_some s.right
sources_joined s hs q j e m =
    mapped_same join_seen (bound_join (bound_sources_seen s)) j q.join m ∙ sources_same hs s.right q.join (omega (arith, ap length e))

-- a query with a join has two sources
two_sources : (left : HeldBoundSource) (j : Option BoundJoin) (r : Option HeldBoundSource) → is_some j ≡ is_some r → (on : ColumnPlace × ColumnPlace) → option_map join_seen j ≡ Some on
    → (length (bound_source_seen left ∷ option_to_list (option_map bound_source_seen r)) == 1) ≡ false
two_sources left None r e on is = absurd (cc)
two_sources left (Some k) None e on is = absurd (cc)
two_sources left (Some k) (Some s) e on is = refl

pub paired : (h : HeldQuery) (on : ColumnPlace × ColumnPlace) → (query_seen h).join ≡ Some on → (length (query_seen h).bound_sources == 1) ≡ false
paired h on is = two_sources h.bound_sources.left h.join h.bound_sources.right h.joined on is
