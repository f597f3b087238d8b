use Rattle.std.proofs.Common.{refl, sym, ap, ◌∙◌}
use Rattle.std.specs.Prelude.{slice_index}
use Rattle.std.proofs.Common.{ℕ, List}
use Rattle.owner_session.specs.Endings.{StoreRefuses}
use Rattle.owner_session.proofs.ExchangeLaws.{is_body, is_no_body}
use Rattle.owner_session.proofs.exchange.answer_body.Goals as goal

pub returns-then-is_refusal-clause-body : goal.returns-then-is_refusal-clause-body
returns-then-is_refusal-clause-body c = (
  StoreRefuses c.first_byte.result,
  is_no_body c.args.frame.kind c.args.frame.body.items c.first_byte.result
      (sym c.is_refusal.ensures ∙ c.if-is_refusal.true)
      (c.first_byte.ensures ∙ ap (λ (b : List ℕ). slice_index b 0) c.as_slice.ensures.value),
  c.store_refusal.ensures.ending,
)

pub returns-clause-body : goal.returns-clause-body
returns-clause-body c =
    is_body c.args.frame.kind c.args.frame.body.items c.args.frame.body
    (sym c.is_refusal.ensures ∙ c.if-is_refusal.false) refl
