use Rattle.std.proofs.Common.{sym, ap, ◌∙◌, subst, arith, ◌≤◌, length, ◌^◌, map}
use Rattle.std.specs.Prelude.{Vec, Ok, Err}
use Rattle.std.specs.Global.{Global}
use Rattle.sql_tokens.specs.Lex.{tokens_of, placed_of, Scans}
use Rattle.vo_spec.specs.declared.tables.Batch.{Batch}
use Rattle.sql_text.specs.Scripts.{HasScriptFault}
use Rattle.sql_text.proofs.LongBatches.{script_lapsed, whole_script}
use Rattle.sql_text.proofs.Places.{places_within}
use Rattle.sql_text.proofs.TokenEnds.{utf8_tokens}
use Rattle.sql_text.proofs.BatchFits.{answer_script_fits}
use Rattle.sql_text.proofs.scripts.parse_script.Goals as goal

pub returns-in-Err-clause-found : goal.returns-in-Err-clause-found
returns-in-Err-clause-found c =
    let fits : length c.args.text.now ≤ 16777216 = omega (arith, ap length c.as_bytes-bytes.ensures.value) in
    subst (HasScriptFault c.args.text.now) (sym c.of_tokens.ensures)
    (script_lapsed c.args.text.now c.in-Err.fault fits (subst (λ z. Scans (tokens_of z) (Err c.in-Err.fault)) c.as_bytes-bytes.ensures.value c.in-Err.ensures))

pub short_len-requires : goal.short_len-requires
short_len-requires c =
    let fits : length c.as_bytes-bytes.result.now ≤ 2 ^ 63 = omega arith in
    record { places = places_within (2 ^ 63) c.as_bytes-bytes.result.now _ fits (c.in-Ok.ensures ∙ ap (λ z. Ok (map placed_of z)) (sym c.as_slice-all.ensures.value)) }

pub returns-clause-found : goal.returns-clause-found
returns-clause-found c =
    let fits : length c.as_bytes-bytes.result.now ≤ 16777216 = omega arith in
    (whole_script (λ (v : Vec Batch Global). v.items) c.args.text.now c.as_bytes-bytes.result.now c.as_slice-all.result.now c.split_at.result.0.now c.split_at.result.1.now c.left.result.now
    c.short_len.result c.is_empty.result c.new-parser.result c.script-found.new.self c.script-found.result c.ended_script.result
    c.as_bytes-bytes.ensures.value fits (c.in-Ok.ensures ∙ ap (λ z. Ok (map placed_of z)) (sym c.as_slice-all.ensures.value)) c.short_len.ensures.value c.split_at.ensures.front c.split_at.ensures.back c.is_empty.ensures
    c.new-parser.ensures.list c.new-parser.ensures.place c.new-parser.ensures.levels c.script-found.ensures.value c.script-found.ensures.list c.left.ensures c.ended_script.ensures).0

pub returns-clause-only : goal.returns-clause-only
returns-clause-only c =
    let fits : length c.as_bytes-bytes.result.now ≤ 16777216 = omega arith in
    (whole_script (λ (v : Vec Batch Global). v.items) c.args.text.now c.as_bytes-bytes.result.now c.as_slice-all.result.now c.split_at.result.0.now c.split_at.result.1.now c.left.result.now
    c.short_len.result c.is_empty.result c.new-parser.result c.script-found.new.self c.script-found.result c.ended_script.result
    c.as_bytes-bytes.ensures.value fits (c.in-Ok.ensures ∙ ap (λ z. Ok (map placed_of z)) (sym c.as_slice-all.ensures.value)) c.short_len.ensures.value c.split_at.ensures.front c.split_at.ensures.back c.is_empty.ensures
    c.new-parser.ensures.list c.new-parser.ensures.place c.new-parser.ensures.levels c.script-found.ensures.value c.script-found.ensures.list c.left.ensures c.ended_script.ensures).1

pub returns-clause-fits : goal.returns-clause-fits
returns-clause-fits c = answer_script_fits (λ (v : Vec Batch Global). v.items) c.args.text.now c.ended_script.result (returns-clause-found c) (utf8_tokens c.args.text.now c.utf8.text)
