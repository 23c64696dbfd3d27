-- What a step of a conversation is for the stream of bytes that is still to come. For answer_next.
use Rattle.std.proofs.Common.{◌≡◌, ◌∙◌, ap, sym, subst, refl, inl, inr, List, [], ◌∷◌, ◌++◌, ℕ, Bool, true, if◌then◌else◌, length, take, drop, append_assoc, append-nil, Option, Some, Ok, Err, option_map, arith}
use Rattle.std.specs.Io.KnownBytes.{Consumes, IsAtEnd}
use Rattle.std.proofs.lemmas.List.{take-append-drop}
use Rattle.ledger.specs.Answer.{State}
use Rattle.commands.specs.declared.replies.Fault.{Fault}
use Rattle.commands.specs.declared.replies.Fault.TheVariants as fault
use Rattle.http_messages.specs.Messages.{BeginsWith, HasNoMessage, IsMessage, Message}
use Rattle.saga_core.specs.StreamFaults.{IsOfReading, served_fault}
use Rattle.saga_core.specs.declared.serve_faults.ServeFault.{ServeFault}
use Rattle.desk_http.specs.Pages.{IsPage, state_after}
use Rattle.desk_http.specs.declared.doors.Door.{Door}
use Rattle.desk_http.specs.declared.doors.Door.TheVariants.{Port}
use Rattle.desk_http.specs.Serving.{ForNext}
use Rattle.http_conversations.specs.Pages.{IsPageAt}
use Rattle.http_conversations.specs.Modes.{Said, Says}
use Rattle.http_conversations.specs.declared.modes.Layout.TheVariants as layout
use Rattle.http_conversations.specs.declared.modes.Mode.{Mode}
use Rattle.http_conversations.specs.declared.modes.Mode.TheVariants.{Strict}
use Rattle.http_conversations.specs.Answering.{AnswersFirst, LeadsAs}
use Rattle.http_conversations.specs.History.{HasNoTurn, History, TakesFirst, after_received}
use Rattle.http_conversations.specs.Serving.{AwaitsNext, FailsAt, GetsNext, IsAtPort, to_come}
use Rattle.http_conversations.specs.declared.conversation.Stage.TheVariants.{Open, Closing}

-- Streams.

-- the bytes that the reader has left are known
record Known (waiting stream : List ℕ) (remaining : Option (List ℕ)) : Type 0 where
  left : List ℕ
  is : remaining ≡ Some left
  whole : stream ≡ waiting ++ left

known : (waiting stream : List ℕ) (remaining : Option (List ℕ))
    → option_map (λ bytes. waiting ++ bytes) remaining ≡ Some stream → Known waiting stream remaining
known waiting stream remaining is = grind arith

-- the first bytes that wait are a message
begins : (waiting left stream : List ℕ) (count : ℕ) (m : Message) → stream ≡ waiting ++ left → IsMessage (take count waiting) m
    → BeginsWith stream m (drop count waiting ++ left)
begins waiting left stream count m whole is =
    let rest = drop count waiting ++ left in
    let all : take count waiting ++ rest ≡ stream =
    sym (append_assoc (take count waiting) (drop count waiting) left)
    ∙ ap (λ t. t ++ left) (take-append-drop count waiting) ∙ sym whole in
    subst (λ t. BeginsWith t m rest) all (is rest)

-- more was read
pub reads_on : (h k : History) (stream more : List ℕ) (before after : Option (List ℕ)) → h.stage ≡ Open
    → to_come h before ≡ Some stream → Consumes before after more → k ≡ after_received h more → to_come k after ≡ Some stream
reads_on h k stream more before after is_open was read is = grind (arith, known, append_assoc)

-- and the next message may be answered, as before
pub awaits_on : (h k : History) (more : List ℕ) → k ≡ after_received h more → AwaitsNext h → AwaitsNext k
awaits_on h k more is x = grind arith

empty : (xs : List ℕ) → length xs ≡ 0 → xs ≡ []
empty [] is = refl
empty (x ∷ xs) is = cc

-- no message is whole, and no more bytes come
pub ends_there : (h : History) (stream more : List ℕ) (before after : Option (List ℕ)) → AwaitsNext h → HasNoTurn h
    → to_come h before ≡ Some stream → length more ≡ 0 → Consumes before after more → IsAtEnd after → HasNoMessage stream
ends_there h stream more before after awaits no_turn was none read at_end = grind (arith, known, empty, append-nil)

-- Messages in strict mode.

-- what is said in strict mode is a message of it
plain_of : (mode : Mode) (bytes : List ℕ) (x : Said) → mode ≡ Strict → Says mode bytes x
    → IsMessage bytes x.meant × (x.layout ≡ layout.Profile)
plain_of mode bytes x plain is = subst (λ w. Says w bytes x) plain is

-- its page is that of the message
plain_page : {second : Option ℕ} (door : Door) (s : State) (x : Said) (bytes : List ℕ) → x.layout ≡ layout.Profile
    → IsPageAt door second s x bytes → IsPage door s x.meant bytes
plain_page door s x bytes plain p = grind arith

-- a page that does not close leaves what follows its message
left_of : (bytes : List ℕ) (count : ℕ) (c : Bool) → (if c then Closing else Open) ≡ Open
    → (if c then [] else drop count bytes) ≡ drop count bytes
left_of bytes count c is = grind arith

module _ {h : History} {stream : List ℕ} (remaining : Option (List ℕ)) (port : IsAtPort h) (was : to_come h remaining ≡ Some stream) where
  of_stream : Known h.waiting stream remaining
  of_stream = known h.waiting stream remaining was

  -- the first bytes that wait are the next message of the stream
  next_is : (count : ℕ) (said : Said) → Says h.mode (take count h.waiting) said
      → BeginsWith stream said.meant (drop count h.waiting ++ of_stream.left)
  next_is count said says = grind (arith, begins, plain_of)

  -- so it is of the next message
  for_next : (So : State → Type 0) (s : State) (count : ℕ) (said : Said) → Says h.mode (take count h.waiting) said
      → So (state_after h.door s said.meant) → ForNext stream (λ m. So (state_after Port s m))
  for_next So s count said says there = grind (arith, next_is)

  module _ (sound : Type 0) (stood0 stood stands : State → Type 0) (leaves : State → State → Type 0) (second : Option ℕ) (k : History)
      (stays : sound → (s : State) → stood0 s → stood s) where
    -- a fault came at the next message
    fails_as : (f : Fault) (t : TakesFirst (Err f) h k) → LeadsAs sound stood stands leaves second (Err f) h k t
        → sound → (s : State) → stood0 s → FailsAt sound stood0 stands leaves stream s (served_fault f)
    fails_as fault.Memory (inl t) leads is_sound s stood_for =
        elim (leads is_sound s (stays is_sound s stood_for)) [
          | inl here ↦ inl here
          | inr there ↦ inr (for_next stands s t.count t.message t.is_message there)
        ]
    fails_as fault.Memory (inr t) leads is_sound s stood_for = inl (leads.1 s (stays is_sound s stood_for))
    fails_as fault.Store (inl t) leads is_sound s stood_for =
        for_next (leaves s) s t.count t.message t.is_message (leads is_sound s (stays is_sound s stood_for))
    fails_as fault.Store (inr t) leads is_sound s stood_for = grind arith

  module _ {sound : Type 0} {stood0 stood stands : State → Type 0} {leaves : State → State → Type 0} {second : Option ℕ} {k : History}
      (stays : sound → (s : State) → stood0 s → stood s) where
    pub fails_next : (f : Fault) → AnswersFirst sound stood stands leaves second (Err f) h k
        → sound → (s : State) → stood0 s → FailsAt sound stood0 stands leaves stream s (served_fault f)
    fails_next f a = fails_as sound stood0 stood stands leaves second k stays f a.takes a.leads

    -- the next message got its page
    pub gets_next : AnswersFirst sound stood stands leaves second (Ok true) h k → GetsNext sound stood0 stands leaves stream remaining k
    gets_next a = grind (arith, begins, next_is, known, left_of, plain_of, plain_page, a.leads, stands)

-- reading failed, and the state is what it was
pub reading_fails : {sound : Type 0} {stood stands : State → Type 0} (leaves : State → State → Type 0) (stream : List ℕ)
    (fault : ServeFault) → IsOfReading fault → (sound → (s : State) → stood s → stands s)
    → sound → (s : State) → stood s → FailsAt sound stood stands leaves stream s fault
reading_fails leaves stream fault reads stays = grind (arith, stays)
