-- What is kept of a slot, and counted, as its turn is seen.
use Rattle.std.specs.Prelude.{◌≡◌, ℕ, ◌-◌, ◌/◌, ◌==◌, ◌&&◌, min, Bool, true, false, List, bytes_eq, codes, if◌then◌else◌, Option, Some, None, is_some, slice_get, slice_set}
use Rattle.std.specs.Option.{option_map_or}
use Rattle.std.specs.Time.{instant_nanos}
use Rattle.std.specs.declared.time.Instant.{Instant}
use Rattle.http_log.specs.Counted.{with_command, with_end, with_request}
use Rattle.http_log.specs.Counting.{most_times, one_more}
use Rattle.http_log.specs.declared.counting.Metrics.{Metrics}
use Rattle.http_live.specs.declared.slots.Standing.{Standing}
use Rattle.http_live.specs.declared.slots.Standing.TheVariants as standing
use Rattle.http_messages.specs.declared.requests.Message.{Message}
use Rattle.http_conversations.specs.declared.modes.Arrived.{Arrived}
use Rattle.http_live.specs.Ends.{why_of}
use Rattle.http_live.specs.Requests.{is_post, status_of}
use Rattle.http_live.specs.declared.journal.Journal.{Journal}
use Rattle.http_live.specs.declared.known.Known.{Known}

-- how many microseconds lie between two times, as far as a count has them; 0 where the clock was not read
abbrev pub micros_between : Option Instant → Option Instant → ℕ
micros_between (Some from) (Some to) = min ((instant_nanos to - instant_nanos from) / 1_000) most_times
micros_between _ _ = 0

-- Of a slot.

-- the slots, of which this one is changed so, if it is there
abbrev pub with_slot : (Known → Known) → ℕ → List Known → List Known
with_slot change at slots =
    option_map_or (λ (known : Known). slice_set slots at (change known)) (slice_get slots at) slots

-- a slot is changed so, if it is there, and nothing else of the journal, but perhaps when its turn began
pub record ChangesSlot (change : Known → Known) (at : ℕ) (old new : Journal) : Type 0 where
  pub same : new ≡ record old { slots = new.slots; began = new.began }
  pub slot : new.slots.items ≡ with_slot change at old.slots.items

-- a message, or part of one, waits to be answered, or does not
abbrev pub with_part : Bool → Known → Known
with_part has_part known = record known { has_part = has_part }

-- this much is left of its page; it was read at this time, if its turn was busy and sent nothing
abbrev pub with_rest : (is_busy : Bool) → ℕ → Option Instant → Known → Known
with_rest is_busy unsent now known =
    record known { unsent = unsent; read_at = if is_busy && unsent == known.unsent then now else known.read_at }

-- this is left of its page, after which it ends, or does not
abbrev pub with_page : ℕ → (closes : Bool) → Known → Known
with_page unsent closes known = record known { unsent = unsent; closes = closes }

-- one more request was answered, or lost its page
abbrev pub with_answer : Known → Known
with_answer known = record known { requests = one_more known.requests }

-- its turn sent nothing, and there may be more to do at once
abbrev pub is_busy : Standing → Bool
is_busy standing.Busy = true
is_busy _ = false

-- Of the counts.

-- a message was answered with this status, in so many microseconds: that is a command's time, if one was accepted
abbrev pub counted_message : (status : List ℕ) → ℕ → Message → Metrics → Metrics
counted_message status micros message metrics =
    if bytes_eq status (codes "200") && is_post message
    then with_command micros (with_request status metrics) else with_request status metrics

-- the same of a slot, if it is there, and a message was taken
abbrev pub counted_answer : Option Known → Option Arrived → (status : List ℕ) → ℕ → Metrics → Metrics
counted_answer (Some known) (Some arrived) status micros metrics =
    counted_message status micros arrived.message metrics
counted_answer _ _ status micros metrics = metrics

-- a connection ended in its turn, and the page of a message that was taken in it is lost
abbrev pub counted_over : Option Known → Option Arrived → ℕ → Metrics → Metrics
counted_over (Some known) seen micros metrics =
    let counted = counted_answer (Some known) seen (codes "lost") micros metrics in
    if known.is_here then with_end (why_of (is_some seen) known) counted else counted
counted_over None seen micros metrics = metrics

-- a turn ended so, with this page
abbrev pub counted_turn : Standing → Option Known → Option Arrived → (page : List ℕ) → ℕ → Metrics → Metrics
counted_turn standing.Over known seen page micros metrics = counted_over known seen micros metrics
counted_turn standing.Answered known seen page micros metrics = counted_answer known seen (status_of page) micros metrics
counted_turn standing.Stopped known seen page micros metrics = counted_answer known seen (status_of page) micros metrics
counted_turn _ known seen page micros metrics = metrics
