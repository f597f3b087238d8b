use Rattle.std.proofs.Common.{rules, ◌<◌, [], ◌∷◌, ◌++◌, length, refl, sym, ap, subst, ◌∙◌}
use Rattle.vo_world.specs.declared.events.Said.TheVariants as said
use Rattle.std.specs.List.{AllByRecursion}
use Rattle.outside.specs.DiskModel.{now}
use Rattle.vo_spec.specs.Secret.{public_of_secret}
use Rattle.vo_world.specs.Keeping.{Trusts}
use Rattle.vo_world.specs.Steps.{gain_records}
use Rattle.vo_world.specs.Viewing.{model_of}
use Rattle.vo_world.specs.WorldModel.{WorldModel, records_of}
use Rattle.vo_world.proofs.Models.{gained_is}
use Rattle.vo_world.proofs.Receipts.{acceptance, refusal, trust_more}
use Rattle.vo_world.proofs.StepLaws.{receives_keep, reply_of}
use Rattle.vo_world.proofs.world.World.receive.Goals as goal

pub invariant_of-self-in-Ok : goal.invariant_of-self-in-Ok
invariant_of-self-in-Ok c =
    let w = model_of c.self.inside in
    let within = subst (λ (v : WorldModel). c.args.reply.client < length v.leasts) (sym c.self.view_is) c.requires in
    let clients = c.self.inside.clients.items in
    record {
      keeps = receives_keep w c.args.reply.client c.args.reply.query c.args.reply.bytes (said.Accepted c.in-Ok.answer) _ c.self.invariant.keeps within
          (acceptance w clients c.args.reply.client c.args.reply.query c.args.reply.bytes _ c.index_mut-client.result.now refl within c.index_mut-client.ensures.value c.self.invariant.trust c.as_slice.ensures c.check-answer.new.self
          c.in-Ok.answer _ c.in-Ok.ensures.answers c.in-Ok.ensures.least refl refl refl refl c.moment-moment.ensures refl
          ((rw c.unwrap.ensures at c.push.ensures.items) ∙ ap (λ xs. xs ++ reply_of c.args.reply.client c.args.reply.query c.args.reply.bytes c.in-Ok.answer.version ∷ []) c.reserve.ensures.items) (sym (gained_is _ _ _ _ _ c.deref.ensures.value c.entries.ensures (c.in_ok-released.ensures {u = tt}))));
      own_key = c.self.invariant.own_key;
      works = c.self.invariant.works;
      trust = trust_more w clients c.args.reply.client c.args.reply.query c.args.reply.bytes _ c.index_mut-client.result.now refl within c.index_mut-client.ensures.value c.self.invariant.trust c.as_slice.ensures c.check-answer.new.self c.in-Ok.ensures.key;
    }

pub invariant_of-self-in-Err : goal.invariant_of-self-in-Err
invariant_of-self-in-Err c =
    let w = model_of c.self.inside in
    let within = subst (λ (v : WorldModel). c.args.reply.client < length v.leasts) (sym c.self.view_is) c.requires in
    let clients = c.self.inside.clients.items in
    record {
      keeps = receives_keep w c.args.reply.client c.args.reply.query c.args.reply.bytes (said.Refused c.in-Err.fault) _ c.self.invariant.keeps within
          (refusal w clients c.args.reply.client c.args.reply.query c.args.reply.bytes _ c.index_mut-client.result.now refl within c.index_mut-client.ensures.value c.self.invariant.trust c.as_slice.ensures c.check-answer.new.self
          c.in-Err.fault _ (λ e. search rules) c.in-Err.ensures.answers c.in-Err.ensures.kept refl refl refl refl c.moment-moment.ensures refl c.reserve.ensures.items (sym (gained_is _ _ _ _ _ c.deref.ensures.value c.entries.ensures (c.in_ok-released.ensures {u = tt}))));
      own_key = c.self.invariant.own_key;
      works = c.self.invariant.works;
      trust = trust_more w clients c.args.reply.client c.args.reply.query c.args.reply.bytes _ c.index_mut-client.result.now refl within c.index_mut-client.ensures.value c.self.invariant.trust c.as_slice.ensures c.check-answer.new.self c.in-Err.ensures.key;
    }

pub returns-in-Ok-clause-ok : goal.returns-in-Ok-clause-ok
returns-in-Ok-clause-ok c =
    let view = c.self.view_is in
    let clients = c.self.inside.clients.items in
    let trust = subst (λ (v : WorldModel). AllByRecursion (Trusts (public_of_secret v.key)) clients) view c.self.invariant.trust in
    acceptance c.args.self.now clients c.args.reply.client c.args.reply.query c.args.reply.bytes _ c.index_mut-client.result.now (ap (λ (v : WorldModel). v.leasts) (sym view)) c.requires
    c.index_mut-client.ensures.value trust c.as_slice.ensures c.check-answer.new.self c.in-Ok.answer _ c.in-Ok.ensures.answers c.in-Ok.ensures.least
    (ap (λ (v : WorldModel). v.key) view) (ap (λ (v : WorldModel). v.roots) view) (ap (λ (v : WorldModel). v.entries) view) (ap (λ (v : WorldModel). v.drive) view) (c.moment-moment.ensures ∙ ap (λ (v : WorldModel). now v.drive) view) refl
    ((rw c.unwrap.ensures at c.push.ensures.items) ∙ ap (λ xs. xs ++ reply_of c.args.reply.client c.args.reply.query c.args.reply.bytes c.in-Ok.answer.version ∷ []) (c.reserve.ensures.items ∙ ap (λ (v : WorldModel). v.accepted) view)) (sym (gained_is _ _ _ _ _ c.deref.ensures.value c.entries.ensures (c.in_ok-released.ensures {u = tt})) ∙ ap (λ (v : WorldModel). gain_records v.released (records_of v.entries)) view)

pub returns-in-Err-clause-ok : goal.returns-in-Err-clause-ok
returns-in-Err-clause-ok c =
    let view = c.self.view_is in
    let clients = c.self.inside.clients.items in
    let trust = subst (λ (v : WorldModel). AllByRecursion (Trusts (public_of_secret v.key)) clients) view c.self.invariant.trust in
    refusal c.args.self.now clients c.args.reply.client c.args.reply.query c.args.reply.bytes _ c.index_mut-client.result.now (ap (λ (v : WorldModel). v.leasts) (sym view)) c.requires
    c.index_mut-client.ensures.value trust c.as_slice.ensures c.check-answer.new.self c.in-Err.fault _ (λ e. search rules) c.in-Err.ensures.answers c.in-Err.ensures.kept
    (ap (λ (v : WorldModel). v.key) view) (ap (λ (v : WorldModel). v.roots) view) (ap (λ (v : WorldModel). v.entries) view) (ap (λ (v : WorldModel). v.drive) view) (c.moment-moment.ensures ∙ ap (λ (v : WorldModel). now v.drive) view) refl
    (c.reserve.ensures.items ∙ ap (λ (v : WorldModel). v.accepted) view) (sym (gained_is _ _ _ _ _ c.deref.ensures.value c.entries.ensures (c.in_ok-released.ensures {u = tt})) ∙ ap (λ (v : WorldModel). gain_records v.released (records_of v.entries)) view)
