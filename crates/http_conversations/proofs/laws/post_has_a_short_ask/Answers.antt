-- The law is used as it stands.
use Rattle.std.proofs.Common.{◌++◌}
use Rattle.desk_http.specs.declared.doors.Door.TheVariants.{Port}
use Rattle.http_messages.specs.WideExamples.{post_bytes, text_of_get}
use Rattle.http_conversations.specs.declared.modes.Mode.TheVariants.{Lenient}
use Rattle.http_conversations.proofs.laws.post_has_a_short_ask.Goals as goal

pub returns : goal.returns
returns c = record { short = c.asks_are_short.ensures.law Lenient Port (post_bytes ++ text_of_get) }
