-- Values and keys that are lent or owned are seen alike: as what they hold.
use Rattle.std.specs.Prelude.{ℕ, List}
use Rattle.vo_spec.specs.declared.values.Value.{Value}
use Rattle.vo_spec.specs.declared.values.Value.TheVariants.{Null, Int, Text, Bool as Truth}
use Rattle.vo_spec.specs.declared.cells.ValueRef.{ValueRef}
use Rattle.vo_spec.specs.declared.cells.ValueRef.TheVariants.{Null as Null_ref, Int as Int_ref, Text as Text_ref, Bool as Truth_ref}
use Rattle.vo_spec.specs.declared.cells.HeldValue.{HeldValue}
use Rattle.vo_spec.specs.declared.cells.HeldValue.TheVariants.{Lent as Lent_value, Owned as Owned_value}
use Rattle.vo_spec.specs.declared.cells.HeldKey.{HeldKey}
use Rattle.vo_spec.specs.declared.cells.HeldKey.TheVariants.{Lent as Lent_key, Owned as Owned_key}

abbrev pub value_of : ValueRef → Value
value_of Null_ref = Null
value_of (Int_ref z) = Int z
value_of (Text_ref s) = Text s.now
value_of (Truth_ref b) = Truth b

abbrev pub held_value : HeldValue → Value
held_value (Lent_value v) = value_of v
held_value (Owned_value v) = v

abbrev pub held_key : HeldKey → List ℕ
held_key (Lent_key k) = k.now
held_key (Owned_key k) = k
