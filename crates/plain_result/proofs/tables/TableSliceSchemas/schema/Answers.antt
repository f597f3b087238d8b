use Rattle.std.proofs.Common.{Some, None, sym}
use Rattle.plain_result.proofs.ResultLaws.{schema_by_name}
use Rattle.plain_result.proofs.tables.TableSliceSchemas.schema.Goals as goal

pub returns-in-Some : goal.returns-in-Some
returns-in-Some c = sym (schema_by_name c.args.name.now c.args.self.now.tables.now (Some c.in-Some.table.now) (sym c.in-Some.ensures))

pub returns-in-None : goal.returns-in-None
returns-in-None c = sym (schema_by_name c.args.name.now c.args.self.now.tables.now None (sym c.in-None.ensures))
