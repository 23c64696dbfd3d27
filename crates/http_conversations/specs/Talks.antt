-- The history of what a conversation holds.
use Rattle.std.specs.Prelude.{ℕ, List, take, drop, map, Some, None, if◌then◌else◌}
use Rattle.std.specs.List.{flat_map}
use Rattle.http_conversations.specs.declared.talk.Talk.{Talk}
use Rattle.http_conversations.specs.declared.talk.Taken.{Taken}
use Rattle.desk_http.specs.declared.doors.Door.{Door}
use Rattle.http_conversations.specs.declared.modes.Mode.{Mode}
use Rattle.http_conversations.specs.Worlds.{Exchange}
use Rattle.http_conversations.specs.History.{History}

-- the exchange with a message that was taken of these bytes
abbrev pub exchange_of : Door → Mode → List ℕ → Taken → Exchange
exchange_of door mode waiting taken = record {
  door = door;
  mode = mode;
  bytes = take taken.count waiting;
  went_on = taken.went_on;
  page = if taken.has_page then Some taken.page.items else None;
}

abbrev pub history_of : Talk → History
history_of t = record {
  door = t.door;
  mode = t.mode;
  stage = t.stage;
  stops = t.stops;
  went_on = t.went_on;
  received = flat_map (λ r. drop r.1 r.0.items) t.reads.items;
  waiting = t.waiting.items;
  exchanges = map (λ x. exchange_of t.door t.mode x.0.items x.1) t.exchanges.items;
  sent = flat_map (λ w. take w.1 w.0.items) t.writes.items;
  pending = t.pending.items;
}
