-- The rows of an event lead to the state with it, and a move to the outcome that the rules answer. For the lemmas of each request.
use Rattle.std.proofs.Common.{◌≡◌, ℕ, ◌+◌, length, Option, Some, None, IsTrue, sym, ap, ◌∙◌, refl}
use Rattle.allotment.specs.Want.{Wanted}
use Rattle.plan.specs.PlanModel.{want_at}
use Rattle.commands.specs.Asks.{Asked}
use Rattle.commands.specs.Request.{Request}
use Rattle.commands.specs.Texts.{reply_line}
use Rattle.commands.specs.declared.items.Cause.{Cause}
use Rattle.commands.specs.declared.items.Cursor.{Cursor}
use Rattle.commands.specs.declared.items.Item.{Item}
use Rattle.commands.specs.declared.items.Item.TheVariants as item
use Rattle.commands.specs.declared.replies.Reply.{Reply}
use Rattle.ledger.specs.Answer.{State, kept_for, state_with, Outcome, asker, answer_within, is_request, carried_out}
use Rattle.ledger.specs.Ledger.{Did, Journey, journeys, journey_at, history, is_allowed, fits}
use Rattle.ledger.specs.JourneyChanges.{cursor_after}
use Rattle.ledger.specs.Cursors.{cursor_of}
use Rattle.ledger.proofs.PlacesMoved.{transaction_fits}
use Rattle.desk_sql.specs.Rows.{Tables}
use Rattle.sql_model.specs.Beginning.{with_answer}
use Rattle.sql_model.specs.Standing.{IsDesk, StandsFor}
use Rattle.sql_model.proofs.Conditions.{items_below, nights_have_free, nights_have_room}
use Rattle.sql_model.proofs.Moves.{transaction_stands, compensation_stands, turn_stands, save_stands}
use Rattle.sql_model.proofs.Plans.{wanted_nights, wanted_count}
use Rattle.sql_writes.specs.Kinds.{Fits, LeadsTo, rows_after}
use Rattle.sql_writes.specs.declared.events.Numbers.{Numbers}
use Rattle.sql_writes.specs.declared.events.Event.{Event}
use Rattle.sql_writes.specs.declared.events.Event.TheVariants.{Transaction, Compensation, Turn, Save}
use Rattle.sql_commands.specs.Moving.{Says, asked_for}
use Rattle.commands.specs.declared.replies.Refusal.{Refusal}
use Rattle.commands.specs.declared.replies.Refusal.TheVariants.{NoJourney, NoSavePoint, NoSave}
use Rattle.commands.specs.declared.replies.Reply.TheVariants as reply
use Rattle.ledger.specs.Replies.{Answer, refused, seen_journey, answer_move, step_choices, abort_choices, stop_choices, save_choices}
use Rattle.sql_model.proofs.Keeping.{outcome-no_event}
use Rattle.sql_commands.specs.declared.moves.Motion.{Motion}
use Rattle.sql_commands.specs.declared.moves.Motion.TheVariants as motion
use Rattle.sql_commands.proofs.Executing.{IsUnmoved}

-- The rows of an event lead to the state with it.

-- the rows of an event, and that of its reply if there is an ask, lead to the next state
pub leads_of : (n : Numbers) (e : Event) (ask : Option Asked) (reply : Reply) {s next : State} → ((t : Tables) → StandsFor t s → Fits n e t)
    → ((t : Tables) → StandsFor t s → StandsFor (with_answer ask reply (rows_after n e t)) next) → LeadsTo n e ask (reply_line reply) s next
leads_of n e None reply fits stands = record { fits = fits; stands = stands }
leads_of n e (Some ask) reply fits stands = record { fits = fits; stands = stands }

-- the journey may make this item next, and these are the numbers and the cursor after it
pub record IsMade (s : State) (ask : Option Asked) (id : ℕ) (a : Journey) (x : Item) (n : Numbers)
    (then : Cursor) : Type 0 where
  pub desk : IsDesk s
  pub new : kept_for s ask ≡ None
  pub at : journey_at s.ledger id ≡ Some a
  pub may : IsTrue (is_allowed s.ledger (Did id x))
  pub num : n.num ≡ length s.ledger + 1
  pub journeys_are : n.journeys ≡ length (journeys s.ledger)
  pub cursor : then ≡ cursor_after a.plan (cursor_of a.plan (history s.ledger id)) x

module _ (s : State) (ask : Option Asked) (reply : Reply) (id : ℕ) (a : Journey) (n : Numbers) (then : Cursor) where
  -- a turn
  turn_leads : (p : ℕ) (cause : Cause) → IsMade s ask id a (item.Turn p cause) n then
      → LeadsTo n (Turn (record { journey = id; target = p; cause = cause; cursor = then })) ask (reply_line reply) s
      (state_with s ask reply (Some (Did id (item.Turn p cause))))
  turn_leads p cause is = leads_of n _ ask reply
      (λ t st. rw is.num (items_below s.ledger t st.entries))
      (λ t st. rw (is.num, is.journeys_are, is.cursor)
      (turn_stands t s ask reply id p cause a st is.desk is.at is.may is.new))

  -- a save-point
  save_leads : (p : ℕ) → IsMade s ask id a (item.Save p) n then
      → LeadsTo n (Save (record { journey = id; position = p })) ask (reply_line reply) s
      (state_with s ask reply (Some (Did id (item.Save p))))
  save_leads p is = leads_of n _ ask reply
      (λ t st. rw is.num (items_below s.ledger t st.entries))
      (λ t st. rw (is.num, is.journeys_are)
      (save_stands t s ask reply id p a st is.desk is.at is.may is.new))

  -- a step that is done, whose want fits
  transaction_leads : (i c : ℕ) (w : Wanted) → want_at a.plan i c ≡ Some w → IsMade s ask id a (item.Transaction i c) n then
      → LeadsTo n (Transaction (record { journey = id; step = i; option = c; want = w; cursor = then })) ask (reply_line reply) s
      (state_with s ask reply (Some (Did id (item.Transaction i c))))
  transaction_leads i c w want is = leads_of n _ ask reply
      (λ t st. record {
        free = λ r range. nights_have_free s.ledger t is.desk.legal st.stock r w range
            (wanted_nights s.ledger id i c a w is.desk.legal is.at want)
            (ap (fits s.ledger) (sym want) ∙ transaction_fits s.ledger id i c a is.at is.may);
        below = rw is.num (items_below s.ledger t st.entries);
      })
      (λ t st. rw (is.num, is.journeys_are, is.cursor)
      (transaction_stands t s ask reply id i c w a st is.desk is.at want is.may is.new))

  -- a step that is compensated
  compensation_leads : (i c : ℕ) (w : Wanted) → want_at a.plan i c ≡ Some w → IsMade s ask id a (item.Compensation i c) n then
      → LeadsTo n (Compensation (record { journey = id; step = i; option = c; want = w; cursor = then })) ask (reply_line reply) s
      (state_with s ask reply (Some (Did id (item.Compensation i c))))
  compensation_leads i c w want is = leads_of n _ ask reply
      (λ t st. record {
        room = λ r range. nights_have_room s.ledger t is.desk.legal st.stock r w
            (wanted_count s.ledger id i c a w is.desk.legal is.at want);
        below = rw is.num (items_below s.ledger t st.entries);
      })
      (λ t st. rw (is.num, is.journeys_are, is.cursor)
      (compensation_stands t s ask reply id i c w a st is.desk is.at want is.may is.new))

  -- an item of any kind
  pub item_leads : (x : Item) (e : Event) → Says id a.plan then x e → IsMade s ask id a x n then
      → LeadsTo n e ask (reply_line reply) s (state_with s ask reply (Some (Did id x)))
  item_leads (item.Transaction i c) e says is = rw says.2 (transaction_leads i c says.0 says.1 is)
  item_leads (item.Compensation i c) e says is = rw says.2 (compensation_leads i c says.0 says.1 is)
  item_leads (item.Turn p cause) e says is = rw says (turn_leads p cause is)
  item_leads (item.Save p) e says is = rw says (save_leads p is)

-- The outcome of a move of a journey, by the answer of the rules.

-- each request for a move keeps the limits
pub move_request : (id : ℕ) (why : Motion) → IsTrue (is_request (asked_for id why))
move_request id motion.Refused = refl
move_request id _ = refl

-- the outcome of a refused request: its reply, and that nothing changes
abbrev pub IsRefused : State → Option Asked → ℕ → Motion → Refusal → Type 0
IsRefused s ask id why refusal = IsUnmoved s ask (asked_for id why) (reply.Refused refusal)

-- if the rules name no event, nothing changes
pub unmoved : (s : State) (ask : Option Asked) (asked : Request) (a : Answer) → kept_for s ask ≡ None → a.event ≡ None
    → answer_within s.ledger (asker ask) asked ≡ a → IsUnmoved s ask asked a.reply
unmoved s ask asked a new none is =
    let comes = outcome-no_event s ask asked new (ap (λ (x : Answer). x.event) is ∙ none) ∙ ap (carried_out s ask) is in
    record {
      replied = sym (ap (λ (o : Outcome). o.reply) comes);
      same = ap (λ (o : Outcome). o.state) comes ∙ ap (state_with s ask a.reply) none;
    }

-- a refusal of the rules is the reply, and nothing changes
pub answered_refused : (s : State) (ask : Option Asked) (id : ℕ) (why : Motion) (refusal : Refusal) → kept_for s ask ≡ None
    → answer_within s.ledger (asker ask) (asked_for id why) ≡ refused refusal → IsRefused s ask id why refusal
answered_refused s ask id why refusal new answered = unmoved s ask (asked_for id why) (refused refusal) new refl answered

-- a move of a journey that the caller does not see is refused
unseen_answer : (s : State) (ask : Option Asked) (id : ℕ) (why : Motion) → seen_journey s.ledger (asker ask) id ≡ None
    → answer_within s.ledger (asker ask) (asked_for id why) ≡ refused NoJourney
unseen_answer s ask id motion.Refused e = ap (λ o. answer_move s.ledger id step_choices NoSavePoint o) e
unseen_answer s ask id (motion.Abort p) e = ap (λ o. answer_move s.ledger id (abort_choices p) NoSavePoint o) e
unseen_answer s ask id motion.Stop e = ap (λ o. answer_move s.ledger id stop_choices NoSavePoint o) e
unseen_answer s ask id motion.Save e = ap (λ o. answer_move s.ledger id save_choices NoSave o) e

pub unseen_refused : (s : State) (ask : Option Asked) (id : ℕ) (why : Motion) → kept_for s ask ≡ None
    → seen_journey s.ledger (asker ask) id ≡ None → IsRefused s ask id why NoJourney
unseen_refused s ask id why new e = answered_refused s ask id why NoJourney new (unseen_answer s ask id why e)
