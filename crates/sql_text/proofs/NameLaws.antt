-- What the rules of names and literals give fits.
use Rattle.std.proofs.Common.{ℕ, List, sym, subst, inl, inr}
use Rattle.vo_spec.specs.declared.values.Value.{Value}
use Rattle.vo_spec.specs.Names.{FitsName}
use Rattle.vo_spec.specs.Values.{FitsValue}
use Rattle.vo_spec.specs.Conditions.{Condition}
use Rattle.sql_text.specs.Queries.{name, literal}
use Rattle.sql_text.proofs.Made.{Made}
use Rattle.sql_text.proofs.TokenFits.{number_fits}
use Rattle.sql_text.proofs.TokenSounds.{IsSound, name_fits, value_fits}

module _ (W : Condition → Type 0) where
  pub named_fits : (v : List ℕ) → Made IsSound W name v → FitsName v
  unfolding name
  named_fits v (t, ((real, _), kind), e) = subst FitsName (sym e) (name_fits t real kind)

  pub literal_fits : (v : Value) → Made IsSound W literal v → FitsValue v
  unfolding literal
  literal_fits v (inl (t, ((real, _), _), e)) = subst FitsValue (sym e) (number_fits t.text t real)
  literal_fits v (inr (inl (t, ((real, _), _), e))) = subst FitsValue (sym e) (number_fits t.text t real)
  literal_fits v (inr (inr (inl (t, (sound, kind), e)))) = subst FitsValue (sym e) (value_fits t sound kind)
  literal_fits v (inr (inr (inr (inl (t, _, e))))) = subst FitsValue (sym e) tt
  literal_fits v (inr (inr (inr (inr (inl (t, _, e)))))) = subst FitsValue (sym e) tt
  literal_fits v (inr (inr (inr (inr (inr (t, _, e)))))) = subst FitsValue (sym e) tt
