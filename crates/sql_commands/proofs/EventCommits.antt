-- Kept replies, the rowids of an event, and what the rules answer: an item, a begin or a load, whose rows lead to the outcome of its
-- request and are permitted. For the functions that commit.
use Rattle.std.proofs.Common.{[], ◌≡◌, ◌+◌, ◌<◌, ◌≤◌, ℕ, List, length, Option, Some, None, IsTrue, refl, sym, ap, subst, ◌∙◌, is_some, option_map, IsUtf8, suc, ◌∷◌, ap₂, arith, flat_map, sum_by, ◌&&◌, nat_le, length-append, le-leb}
use Rattle.commands.specs.Asks.{Asked}
use Rattle.commands.specs.Request as request
use Rattle.commands.specs.Texts.{reply_line, is_accepted}
use Rattle.commands.specs.declared.replies.Refusal.TheVariants.{Limit}
use Rattle.commands.specs.declared.replies.Reply.{Reply}
use Rattle.commands.specs.declared.replies.Reply.TheVariants.{Refused}
use Rattle.desk_sql.specs.Rows.{Tables}
use Rattle.desk_sql.specs.FoundRows.{FindsAnswer, answer_of}
use Rattle.desk_sql.specs.Readable.{HasReplyText}
use Rattle.desk_sql.specs.declared.answers.KeptAnswer.{KeptAnswer}
use Rattle.desk_sql.specs.declared.meta.Meta.{Meta}
use Rattle.plan.specs.PlanModel.{Planned, is_plan, StepPlan}
use Rattle.ledger.specs.Answer.{KeptReply, State, Answer, Outcome, answer_within, asker, most_events, kept_for, state_with}
use Rattle.ledger.specs.Ledger.{Began, Did, Loaded, history, journeys}
use Rattle.ledger.specs.Cursors.{cursor_of}
use Rattle.ledger.proofs.Growing.{is_item_allowed-may_do}
use Rattle.saga_core.specs.Views.{kept_under}
use Rattle.sql_model.specs.Standing.{StandsFor, IsDesk}
use Rattle.sql_model.specs.Reading.{IsAnswerOf, stock_row_of}
use Rattle.sql_model.proofs.Beginning.{beginner, begin_stands}
use Rattle.sql_model.proofs.Readings.{next_is_above, answer_read}
use Rattle.sql_model.proofs.Answered.{answer_found, tells-some, tells-none, outcome-known}
use Rattle.sql_writes.specs.declared.events.Numbers.{Numbers}
use Rattle.sql_writes.specs.declared.events.JourneyBegun.{JourneyBegun}
use Rattle.sql_writes.specs.declared.events.Event.TheVariants.{Begin, Load}
use Rattle.sql_commands.specs.Answering.{AnswersAgain, Counts, Finds, IsKeptLine, ReadsReply}
use Rattle.sql_writes.specs.Kinds.{LeadsTo}
use Rattle.sql_model.proofs.Accepting.{moved-good}
use Rattle.sql_model.proofs.Keeping.{outcome-event, outcome-room, outcome-full}
use Rattle.sql_model.proofs.Loading.{load_stands}
use Rattle.sql_model.proofs.Moves.{cursor_next}
use Rattle.sql_commands.proofs.Executing.{IsUnmoved, LeadsToOutcome}
use Rattle.sql_commands.specs.Executing.{IsAnswered}
use Rattle.sql_commands.specs.Placing.{begun_as}
use Rattle.sql_commands.proofs.LeadLemmas.{IsMade as IsMadeNext, item_leads, leads_of, move_request}
use Rattle.sql_commands.proofs.TextLengths.{line_text}
use Rattle.std.proofs.lemmas.List.{length-map}
use Rattle.std.proofs.lemmas.List.Sums.{sum_by-cons}
use Rattle.allotment.specs.declared.cells.Cell.{Cell}
use Rattle.allotment.specs.declared.cells.Row.{Row}
use Rattle.allotment.specs.declared.places.Held.{Held as HeldPlaces}
use Rattle.commands.specs.Request.{Request}
use Rattle.commands.specs.declared.items.Cursor.{Cursor}
use Rattle.commands.specs.declared.items.Item.{Item}
use Rattle.commands.specs.declared.items.Item.TheVariants as item
use Rattle.sql_model.specs.ExpectedRows.{counted_from, none_taken, option_rows, step_rows_of, batch_text}
use Rattle.sql_writes.specs.Permits.{event_rowids, rowids_of}
use Rattle.sql_writes.specs.declared.events.Event.{Event}
use Rattle.sql_commands.specs.Failing.{asked_rowids, options_in, request_rowids, IsNewTo}
use Rattle.sql_commands.specs.Loading.{HavePlaces, row_loaded, IsLoadDue}
use Rattle.sql_commands.specs.Moving.{Says, asked_for, IsMade}
use Rattle.sql_commands.specs.declared.moves.Motion.{Motion}
use Rattle.sql_commands.specs.declared.moves.Motion.TheVariants as motion
use Rattle.std.specs.List.{list_all}
use Rattle.std.proofs.lemmas.Bool.{and_from, and_parts}
use Rattle.allotment.specs.Limits.{is_between}
use Rattle.commands.specs.Batches.{are_distinct, is_batch, is_good_row}
use Rattle.commands.specs.Limits.{most_rows}
use Rattle.commands.specs.Names.{is_agent, is_batch_name}
use Rattle.commands.specs.declared.replies.Reply.TheVariants as reply
use Rattle.ledger.specs.Replies.{loaded}
use Rattle.ledger.specs.JourneyChanges.{cursor_after}
use Rattle.sql_reads.proofs.ReadReasons.{few_journeys}
use Rattle.sql_writes.specs.declared.events.BatchLoaded.{BatchLoaded}
use Rattle.sql_commands.specs.declared.cursors.Found.{Found}
use Rattle.sql_commands.specs.declared.cursors.Made.{Made}
use Rattle.sql_commands.proofs.Permitted.{answered_permitted, begin_permitted, item_permitted, load_permitted}
use Rattle.sql_commands.proofs.LoadComes.{fitting}
use Rattle.sql_commands.proofs.LoadRows.{put_told}

-- Kept replies.

-- if a row was found, its key is known, and this is the reply
pub known_reply : (t : Tables) (s : State) (ask : Asked) (found : KeptAnswer) (r : Reply) → StandsFor t s → IsDesk s
    → FindsAnswer ask.agent ask.key t (Some found) → AnswersAgain found ask r → Finds s (Some ask) (Some r)
known_reply t s ask found r st desk finds again =
    let told = tells-some IsAnswerOf (answer_of ask.agent ask.key found) (s.kept ask.agent ask.key) (answer_read t s st desk ask.agent ask.key (Some found) finds) in (
      ap is_some told.1,
      λ asked. (let known = outcome-known s (Some ask) asked told.0 told.1 in (
        again s told.0 told.2.ask told.2.reply told.2.accepted ∙ sym (ap (λ (o : Outcome). o.reply) known),
        ap (λ (o : Outcome). o.state) known,
      )),
    )

-- the kept reply is the one in the row that was found
pub kept_reply : (t : Tables) (s : State) (agent key : List ℕ) (found : KeptAnswer) (r : Reply) → StandsFor t s → IsDesk s
    → FindsAnswer agent key t (Some found) → ReadsReply found r → Some r ≡ kept_under s agent key
kept_reply t s agent key found r st desk finds reads =
    let told = tells-some IsAnswerOf (answer_of agent key found) (s.kept agent key) (answer_read t s st desk agent key (Some found) finds) in
    ap Some (reads told.0.reply told.2.reply told.2.accepted) ∙ sym (ap (option_map (λ (k : KeptReply). k.reply)) told.1)

-- and what was kept is the line of an accepted reply
pub kept_line : (t : Tables) (s : State) (ask : Asked) (found : KeptAnswer) → StandsFor t s → IsDesk s
    → FindsAnswer ask.agent ask.key t (Some found) → IsKeptLine found
kept_line t s ask found st desk finds =
    let told = tells-some IsAnswerOf (answer_of ask.agent ask.key found) (s.kept ask.agent ask.key) (answer_read t s st desk ask.agent ask.key (Some found) finds) in
    record { reply = told.0.reply; accepted = told.2.accepted; line = told.2.reply }

-- each such line can be read
pub reply_texts : (t : Tables) (s : State) → StandsFor t s → IsDesk s → (agent key : List ℕ) → HasReplyText agent key t
reply_texts t s st desk agent key a has =
    let told = tells-some IsAnswerOf a (s.kept agent key) (answer_found s.kept t.answer agent key (Some a) st.answer desk.keepable has) in
    subst IsUtf8 (sym told.2.reply) (line_text told.0.reply told.2.accepted)

-- if no row was found, no reply is kept
pub none_kept : (t : Tables) (s : State) (agent key : List ℕ) → StandsFor t s → IsDesk s → FindsAnswer agent key t None → None ≡ kept_under s agent key
none_kept t s agent key st desk finds =
    sym (ap (option_map (λ (k : KeptReply). k.reply)) (tells-none IsAnswerOf (s.kept agent key) (answer_read t s st desk agent key None finds)))

-- if no row was found, the key is new
pub new_key : (t : Tables) (s : State) (ask : Asked) → StandsFor t s → IsDesk s → FindsAnswer ask.agent ask.key t None → kept_for s (Some ask) ≡ None
new_key t s ask st desk finds = tells-none IsAnswerOf (s.kept ask.agent ask.key) (answer_read t s st desk ask.agent ask.key None finds)

-- The rows of an event take at most the rowids of its request.

-- with its reply an event takes at most what is counted for its request, if it does without
few_with_reply : (ask : Option Asked) (n : Numbers) (e : Event) (asked : Request) → rowids_of n e ≤ request_rowids asked
    → event_rowids n e ask ≤ asked_rowids ask asked
few_with_reply None n e asked few = few
few_with_reply (Some ask) n e asked few = omega (arith, few)

-- Items.

item_few : (id : ℕ) (plan : Planned) (then : Cursor) (n : Numbers) (x : Item) (e : Event) → Says id plan then x e → rowids_of n e ≤ 1
item_few id plan then n (item.Turn p cause) e says = subst (λ v. rowids_of n v ≤ 1) (sym says) (omega arith)
item_few id plan then n (item.Save p) e says = subst (λ v. rowids_of n v ≤ 1) (sym says) (omega arith)
item_few id plan then n _ e says = subst (λ v. rowids_of n v ≤ 1) (sym says.2) (omega arith)

one_counted : (id : ℕ) (why : Motion) → request_rowids (asked_for id why) ≡ 1
one_counted id motion.Refused = refl
one_counted id _ = refl

-- Plans.

counted_many : {X : Type 0} (n : ℕ) (xs : List X) → length (counted_from n xs) ≡ length xs
counted_many n [] = refl
counted_many n (x ∷ xs) = ap suc (counted_many (suc n) xs)

step_many : (id k : ℕ) (s : StepPlan) → length (option_rows none_taken id k s) ≡ length s.options
step_many id k s = length-map (counted_from 1 s.options) _ ∙ counted_many 1 s.options

steps_many : (id k : ℕ) (steps : List StepPlan)
    → length (flat_map (λ (s : ℕ × StepPlan). option_rows none_taken id s.0 s.1) (counted_from k steps))
    ≡ sum_by (λ (s : StepPlan). length s.options) steps
steps_many id k [] = refl
steps_many id k (s ∷ steps) =
    length-append (option_rows none_taken id k s)
    (flat_map (λ (p : ℕ × StepPlan). option_rows none_taken id p.0 p.1) (counted_from (suc k) steps))
    ∙ ap₂ ◌+◌ (step_many id k s) (steps_many id (suc k) steps)
    ∙ sym (sum_by-cons (λ (p : StepPlan). length p.options) s steps)

-- a row for each option of a plan
pub plan_rowids : (id : ℕ) (plan : Planned) → length (step_rows_of id plan) ≡ options_in plan
plan_rowids id plan = steps_many id 1 plan.steps

-- Loads.

-- a cell for each row of a batch
pub load_rowids : (rows : List Row) (s : State) (cells : List (Cell × HeldPlaces)) → HavePlaces rows s cells → length cells ≡ length rows
load_rowids rows s cells places = sym (length-map cells stock_row_of) ∙ ap length places.told ∙ length-map rows (row_loaded s)

-- What the rules answer is the outcome of a request.

module _ {n : Numbers} {e : Event} {ask : Option Asked} {asked : Request} {answered : Reply} {s : State}
    (is : IsAnswered n e ask asked answered s) where
  -- the event of the answer
  event_is : (answer_within s.ledger (asker ask) asked).event ≡ Some is.event
  event_is = ap (λ (a : Answer). a.event) is.answered

  -- if the ledger is full, nothing changes
  pub answered_full : most_events ≤ length s.ledger → IsUnmoved s ask asked (Refused Limit)
  answered_full full =
      let comes = outcome-full s ask asked is.new is.event event_is full in
      record { replied = sym (ap (λ (o : Outcome). o.reply) comes); same = ap (λ (o : Outcome). o.state) comes }

  -- if it has room, the rows lead to the outcome
  pub answered_leads : length s.ledger < most_events → LeadsToOutcome n e ask asked answered s
  answered_leads room =
      let comes = outcome-event s ask asked is.new is.event is.good room event_is in
      let said : (answer_within s.ledger (asker ask) asked).reply ≡ answered = ap (λ (a : Answer). a.reply) is.answered in
      let rows = is.rows room comes.0 in
      record {
        leads = subst (LeadsTo n e ask (reply_line answered) s) (sym (comes.1 ∙ ap (λ r. state_with s ask r (Some is.event)) said)) rows.leads;
        replied = sym (ap (λ (o : Outcome). o.reply) (outcome-room s ask asked is.new room) ∙ said);
        few = few_with_reply ask n e asked is.few;
        permits = λ spelled short t st.
            answered_permitted t s st is.desk n e ask answered (rows.permits spelled t st) is.new short rows.accepted;
      }

-- An item, a begin and a load are what the rules answer, and the rows permit them.

-- the item that the rules answer
pub made_answered : (s : State) (ask : Option Asked) (found : Found) (m : Made) (why : Motion) → IsMade s ask found why m
    → IsAnswered found.numbers m.event ask (asked_for found.id why) (reply.Moved found.id m.item m.cursor.pos m.cursor.phase) s
made_answered s ask found m why made =
    let id = found.id in
    let n = found.numbers in
    let due = made.due in
    let here = due.here in
    let r = here.journey in
    let answered = reply.Moved id m.item m.cursor.pos m.cursor.phase in
    let after : m.cursor ≡ cursor_after r.plan (cursor_of r.plan (history s.ledger id)) m.item =
    made.cursor ∙ ap (λ c. cursor_after r.plan c m.item) here.seen.cursor in
    let says = subst (λ c. Says id r.plan c m.item m.event) (sym made.cursor) made.says in
    record {
      desk = due.desk;
      new = due.new;
      good = move_request id why;
      event = Did id m.item;
      answered = due.answered
          ∙ ap (λ (c : Cursor). record { event = Some (Did id m.item); reply = reply.Moved id m.item c.pos c.phase }) (sym made.cursor);
      num = here.counted.num;
      few = (let few = item_few id r.plan m.cursor n m.item m.event says in let one = one_counted id why in omega (arith, few, one));
      rows = λ room may. (
          let is : IsMadeNext s ask id (begun_as r) m.item n m.cursor = record {
            desk = due.desk;
            new = due.new;
            at = here.seen.at;
            may = may;
            num = here.counted.num;
            journeys_are = here.counted.journeys_are;
            cursor = after;
          } in
          record {
            leads = item_leads s ask answered id (begun_as r) n m.cursor m.item m.event says is;
            permits = λ spelled t st. item_permitted s spelled ask id (begun_as r) n m.cursor t st m.item m.event says is;
            accepted =
                subst (λ (c : Cursor). IsTrue (is_accepted (reply.Moved id m.item c.pos c.phase)))
                (sym (after ∙ sym (cursor_next s.ledger id (begun_as r) m.item due.desk.legal here.seen.at may)))
                (moved-good s.ledger due.desk.legal room id (begun_as r) m.item here.seen.at
                (sym (is_item_allowed-may_do s.ledger id m.item (begun_as r) here.seen.at) ∙ may));
          });
    }

-- a begin, for an agent
pub begin_answered : (s : State) (ask : Option Asked) (counts : Meta) (n : Numbers) (j : JourneyBegun) → IsNewTo ask s → Counts s counts
    → n.num ≡ counts.events + 1 → n.journeys ≡ counts.journeys + 1 → IsTrue (is_plan j.plan.now) → j.agent.now ≡ beginner ask
    → IsTrue (is_agent j.agent.now) → IsAnswered n (Begin j) ask (request.Begin j.plan.now) (reply.Begun n.journeys) s
begin_answered s ask counts n j here counted num_is number good whose agent =
    let plan = j.plan.now in
    let num = num_is ∙ ap (λ k. k + 1) counted.events in
    let same : n.journeys ≡ length (journeys s.ledger) + 1 = number ∙ ap (λ k. k + 1) counted.journeys_are in
    let many = plan_rowids n.journeys plan in
    record {
      desk = here.desk;
      new = here.new;
      good = good;
      event = Began (beginner ask) plan;
      answered = ap (λ k. record { event = Some (Began (beginner ask) plan); reply = reply.Begun k }) (sym same);
      num = num;
      few = omega arith;
      rows = λ room may. (
          let fewer = few_journeys s.ledger in
          let comes = outcome-event s ask (request.Begin plan) here.new (Began (beginner ask) plan) good room refl in
          record {
            leads = leads_of n _ ask (reply.Begun n.journeys) (λ t st. rw same (next_is_above t s st here.desk))
                (λ t st. rw (whose, same, num) (subst (StandsFor _) comes.1 (begin_stands t s ask plan st here.desk.legal good room here.new)));
            permits = λ spelled t st. begin_permitted t s st here.desk n j num same agent;
            accepted = and_from (nat_le 1 n.journeys) (nat_le n.journeys most_events) (le-leb 1 n.journeys (omega (arith, same)))
                (le-leb n.journeys most_events (omega (arith, same, room, fewer)));
          });
    }

-- a load of a batch with a new name
pub load_answered : (s : State) (ask : Option Asked) (n : Numbers) (l : BatchLoaded) (name : List ℕ) (rows : List Row) (answered : Reply)
    → IsTrue (is_batch name rows) → l.name.now ≡ name → l.content.now ≡ batch_text rows → answered ≡ loaded name rows
    → IsLoadDue ask n name rows l.cells.now s → IsAnswered n (Load l) ask (request.Load name rows) answered s
load_answered s ask n l name rows answered good named content is due =
    let new = due.new_name in
    let many = load_rowids rows s l.cells.now due.places in
    record {
      desk = new.desk;
      new = new.new;
      good = good;
      event = Loaded name rows;
      answered = fitting s ask name rows n l.cells.now due ∙ ap (λ r. record { event = Some (Loaded name rows); reply = r }) (sym is);
      num = new.counted.num;
      few = omega arith;
      rows = λ room may. record {
        leads = leads_of n _ ask answered (λ t st. st.stock.once)
            (λ t st. rw (new.counted.num, new.counted.journeys_are, named, content, put_told s rows l.cells.now t.stock due.places.told)
            (load_stands t s ask answered name rows st may new.new));
        permits = λ spelled t st. load_permitted t s st new.desk n l name rows new.counted.num new.unknown named content good;
        accepted = (
            let three = (and_parts (is_batch_name name && is_between 1 most_rows (length rows) && list_all is_good_row rows) (are_distinct rows) good).0 in
            rw is (and_parts (is_batch_name name && is_between 1 most_rows (length rows)) (list_all is_good_row rows) three).0);
      };
    }
