-- What the tests of a query find.
use Rattle.std.specs.Prelude.{◌≡◌, List, [], ◌++◌, map, Option, Some, None, option_to_list, Result, Ok, Err}
use Rattle.std.specs.Option.{option_map_or}
use Rattle.vo_spec.specs.declared.queries.Ref.{Ref}
use Rattle.vo_spec.specs.declared.queries.QueryFault.{QueryFault}
use Rattle.vo_spec.specs.Conditions.{Query, comparisons}
use Rattle.vo_spec.specs.Results.{BoundSource, item_refs, join_refs, query_refs, ref_fault, join_fault, kind_fault}
use Rattle.query_binding.specs.declared.bind_fault.BindFault.{BindFault}
use Rattle.query_binding.specs.declared.bind_fault.BindFault.TheVariants.{Wrong, Memory}

-- a call goes through where the tests find nothing, and else has what they find, unless memory ran
-- out
abbrev pub PassesBinding : {A : Type 0} → Result A BindFault → Option QueryFault → Type 0
PassesBinding (Ok _) found = found ≡ None
PassesBinding (Err (Wrong fault)) found = found ≡ Some fault
PassesBinding (Err Memory) found = Unit {0}

-- The later tests of a query.

-- the references before those of the condition
abbrev pub shown_refs : Query → List Ref
shown_refs q = item_refs q.items ++ option_map_or join_refs q.join []

abbrev pub kind_tests : List BoundSource → Query → List (Option QueryFault)
kind_tests ss q = map (join_fault ss) (option_to_list q.join)
    ++ map (kind_fault ss) (option_map_or comparisons q.condition [])

abbrev pub name_tests : List BoundSource → Query → List (Option QueryFault)
name_tests ss q = map (ref_fault ss) (query_refs q) ++ kind_tests ss q
