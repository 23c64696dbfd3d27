-- How a legal ledger grows by one event, and induction over its events. For what holds of all legal ledgers.
use Rattle.std.proofs.Common.{◌≡◌, ℕ, suc, length, arith, List, [], ◌∷◌, ◌++◌, sym, ◌∙◌, append_assoc, subst, append-nil, Bool, true, false, ◌==◌, Some, None, if◌then◌else◌, IsTrue, unwrap_or, option_map, Option, refl}
use Rattle.std.proofs.lemmas.List.Elements.{filter_map-append}
use Rattle.std.specs.List.{cons_option}
use Rattle.commands.specs.declared.items.Item.{Item}
use Rattle.ledger.proofs.Lists.{numbered-more}
use Rattle.ledger.specs.Ledger.{Event, Loaded, Began, Did, Journey, journeys, journey_at, begun_by, history, item_of, is_allowed, is_item_allowed, may_do, AreAllowedAfter, IsLegal}

-- Legality.

-- events that are allowed, and others that these allow, are allowed together
pub AreAllowedAfter-join : (before xs ys : List Event) → AreAllowedAfter before xs
    → AreAllowedAfter (before ++ xs) ys → AreAllowedAfter before (xs ++ ys)
AreAllowedAfter-join before [] ys first rest =
    subst (λ l. AreAllowedAfter l ys) (append-nil before) rest
AreAllowedAfter-join before (e ∷ xs) ys first rest = (
  first.0,
  AreAllowedAfter-join (before ++ e ∷ []) xs ys first.1
      (subst (λ l. AreAllowedAfter l ys) (sym (append_assoc before (e ∷ []) xs)) rest),
)

-- a legal ledger stays legal with an event that is allowed
pub IsLegal-append : (l : List Event) (e : Event) → IsLegal l → IsTrue (is_allowed l e)
    → IsLegal (l ++ e ∷ [])
IsLegal-append l e legal one = AreAllowedAfter-join [] l (e ∷ []) legal (one, tt)

-- each allowed event keeps this property of a legal ledger
abbrev pub Keeps : (List Event → Type 0) → Type 0
Keeps P = (l : List Event) (e : Event) → IsLegal l → IsTrue (is_allowed l e) → P l
    → P (l ++ e ∷ [])

-- induction from a legal ledger on, event by event
induct-from : (P : List Event → Type 0) → Keeps P → (before es : List Event) → IsLegal before
    → P before → AreAllowedAfter before es → P (before ++ es)
induct-from P more before [] legal p all = subst P (sym (append-nil before)) p
induct-from P more before (e ∷ es) legal p all =
    subst P (append_assoc before (e ∷ []) es)
    (induct-from P more (before ++ e ∷ []) es (IsLegal-append before e legal all.0)
    (more before e legal all.0 p) all.1)

-- induction: what holds of the empty ledger, and is kept by each allowed event, holds of every legal ledger
pub induct : (P : List Event → Type 0) → P [] → Keeps P → (l : List Event) → IsLegal l → P l
induct P none more l legal = induct-from P more [] l tt none legal

-- Journeys and histories.

-- a journey that is begun is the last one
pub journeys-began : (l : List Event) (agent : List ℕ) (plan : _)
    → journeys (l ++ Began agent plan ∷ [])
    ≡ journeys l ++ record { agent = agent; plan = plan } ∷ []
journeys-began l agent plan = filter_map-append begun_by l (Began agent plan ∷ [])

-- a begin makes the journey of the next number, and leaves the others
pub journey_at-began : (l : List Event) (agent : List ℕ) (plan : _) (j : ℕ)
    → journey_at (l ++ Began agent plan ∷ []) j
    ≡ (if j == suc (length (journeys l)) then Some (record { agent = agent; plan = plan }) else journey_at l j)
journey_at-began l agent plan j = grind (arith, journeys-began, numbered-more)

-- a batch begins no journey
pub journeys-loaded : (l : List Event) (name : List ℕ) (rows : _)
    → journeys (l ++ Loaded name rows ∷ []) ≡ journeys l
journeys-loaded l name rows = cc (filter_map-append begun_by l (Loaded name rows ∷ []), append-nil (journeys l))

-- an item begins no journey
pub journeys-did : (l : List Event) (k : ℕ) (item : Item)
    → journeys (l ++ Did k item ∷ []) ≡ journeys l
journeys-did l k item = cc (filter_map-append begun_by l (Did k item ∷ []), append-nil (journeys l))

-- a begin leaves each history
pub history-began : (l : List Event) (agent : List ℕ) (plan : _) (j : ℕ)
    → history (l ++ Began agent plan ∷ []) j ≡ history l j
history-began l agent plan j = cc (filter_map-append (item_of j) l (Began agent plan ∷ []), append-nil (history l j))

-- a batch leaves each history
pub history-loaded : (l : List Event) (name : List ℕ) (rows : _) (j : ℕ)
    → history (l ++ Loaded name rows ∷ []) j ≡ history l j
history-loaded l name rows j = cc (filter_map-append (item_of j) l (Loaded name rows ∷ []), append-nil (history l j))

-- an item is appended to the history of its journey, and to no other
history-item : (l : List Event) (k : ℕ) (item : Item) (j : ℕ) (v : Bool) → (j == k) ≡ v
    → history (l ++ Did k item ∷ []) j
    ≡ history l j ++ cons_option (if v then Some item else None) []
history-item l k item j v e = cc (filter_map-append (item_of j) l (Did k item ∷ []))

-- an item is appended to the history of its own journey
pub history-did_same : (l : List Event) (k : ℕ) (item : Item) (j : ℕ) → (j == k) ≡ true
    → history (l ++ Did k item ∷ []) j ≡ history l j ++ item ∷ []
history-did_same l k item j e = history-item l k item j true e

-- an item leaves the histories of the other journeys
pub history-did_other : (l : List Event) (k : ℕ) (item : Item) (j : ℕ) → (j == k) ≡ false
    → history (l ++ Did k item ∷ []) j ≡ history l j
history-did_other l k item j e = history-item l k item j false e ∙ append-nil (history l j)

-- Items that are allowed.

-- an allowed item is one that its journey may do
pub is_item_allowed-may_do : (l : List Event) (k : ℕ) (item : Item) (a : Journey)
    → journey_at l k ≡ Some a → is_item_allowed l k item ≡ may_do l k item a
is_item_allowed-may_do l k item a at = cc

-- no item is allowed where there is no journey
pub is_item_allowed-none : (l : List Event) (k : ℕ) (item : Item) → journey_at l k ≡ None
    → is_item_allowed l k item ≡ false
is_item_allowed-none l k item absent = cc

-- what a test of an option lets pass is there
some-passes : {X : Type 0} (o : Option X) (test : X → Bool) → unwrap_or (option_map test o) false ≡ true
    → (a : X) × (o ≡ Some a)
some-passes None test e = cc
some-passes (Some a) test e = (a, refl)

-- there is a journey of which an item is allowed
pub item-journey : (l : List Event) (k : ℕ) (item : Item) → is_item_allowed l k item ≡ true
    → (a : Journey) × (journey_at l k ≡ Some a)
item-journey l k item may = some-passes (journey_at l k) (may_do l k item) may

-- it is absurd that an item is allowed where there is no journey
pub absurd_item : {X : Type 0} (l : List Event) (k : ℕ) (item : Item) → journey_at l k ≡ None
    → is_item_allowed l k item ≡ true → X
absurd_item l k item absent may =
    let bad : true ≡ false = sym may ∙ is_item_allowed-none l k item absent in cc
