use Rattle.store_requests.proofs.TextReadings.{text_read, query_text}
use Rattle.store_requests.proofs.laws.queries_are_read.Goals as goal

pub returns : goal.returns
returns c = λ text q utf8. (query_text text q, text_read text q utf8)
