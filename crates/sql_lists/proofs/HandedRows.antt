-- A query whose rows are read one at a time. For the functions that start rows or return the next one.
use Rattle.std.proofs.Common.{◌≡◌, inl, inr, ℕ, List, [], ◌∷◌, ◌++◌, map, Bool, true, false, Some, None, Option, Ok, Err, Result, IfOk, OnErr, IsTrue, refl, sym, ap, subst, ◌∙◌, append_assoc}
use Rattle.std.specs.Borrow.{MutBor}
use Rattle.sqlite.specs.Order.{Row}
use Rattle.sqlite.specs.Query.{Query, IsAnswer}
use Rattle.sqlite.specs.Program.{overlay}
use Rattle.sqlite.specs.Effect.{Database}
use Rattle.sqlite.specs.declared.error.Error.{Error}
use Rattle.sqlite.specs.declared.rows.stream.Rows.{Rows}
use Rattle.sqlite.specs.Store.{Ghosts}
use Rattle.sqlite.specs.Held.{Held, state}
use Rattle.sqlite.specs.Clock.{timed}
use Rattle.sqlite.specs.Listing.{understood, reads_listing, IsSourceOf}
use Rattle.sqlite.specs.State.{State, HasCleanDisk, IsUnchanged, IsStatement, Survives, CommitsShowing}
use Rattle.sqlite.specs.Given.{HasGiven, HasBegun, IsRefused, Returns, Advances, IsEnded, row_if}
use Rattle.sqlite.proofs.Callers.{command_of, given_begin, begins_shown, EndsIn}
use Rattle.sqlite_resolve.specs.declared.compiled.Compiled.{Compiled}
use Rattle.sqlite_resolve.specs.declared.error.CompileError.{CompileError}
use Rattle.desk_sql.specs.declared.versions.Version.{Version}
use Rattle.desk_sql.specs.declared.versions.Version.TheVariants.{Two}
use Rattle.desk_sql.specs.Schema.{IsSchemaOf}
use Rattle.desk_sql.specs.Meanings.{select}
use Rattle.desk_sql.specs.Calls.{SeesIn}
use Rattle.desk_sql.specs.Causes.{HasReason, IsMemory}
use Rattle.desk_sql.specs.Lending.{IsNotBegun}
use Rattle.desk_sql.specs.Readable.{Each}
use Rattle.desk_sql.specs.RemainingRows.{HandsFirst, Hands, RunsOn, Rests}
use Rattle.desk_sql.specs.Rows.{Tables}
use Rattle.sql_lists.specs.Listing.{Listing, RestsOf, StartsOver}
use Rattle.desk_sql.proofs.Beginning.{not_begun_sure}
use Rattle.desk_sql.proofs.Causing.{IsSure, Takes}
use Rattle.desk_sql.proofs.Meaning.{MeansEach}
use Rattle.desk_sql.proofs.Selecting.{leaves_no_more, understood_bare}
use Rattle.desk_sql.proofs.Finding.{whole_answer}

-- two lists with the same prefix have the same suffix
same_rest : {X : Type 0} (front xs ys : List X) → front ++ xs ≡ front ++ ys → xs ≡ ys
same_rest [] xs ys e = e
same_rest {X} (x ∷ front) xs ys e = let both : x ∷ (front ++ xs) ≡ x ∷ (front ++ ys) = e in
    let rest : front ++ xs ≡ front ++ ys = cc in same_rest front xs ys rest

nothing_behind : {X : Type 0} (front xs : List X) → front ≡ front ++ xs → xs ≡ []
nothing_behind [] xs e = sym e
nothing_behind {X} (x ∷ front) xs e = let both : x ∷ front ≡ x ∷ (front ++ xs) = e in
    let rest : front ≡ front ++ xs = cc in nothing_behind front xs rest

-- no SELECT returns rows that it writes
never_returns : (r : Result Compiled CompileError) → ((c : Compiled) → r ≡ Ok c → c.returning ≡ None) → ¬ Returns r
never_returns (Ok c) bare some = absurd (let none = rw (bare c refl) at some in cc)
never_returns (Err e) bare some = some

module _ {S : Type 0} (g : Ghosts S) (text : List ℕ) (q : Query) (names : List (List ℕ)) (m : MeansEach text q names) (params : Row) where
  -- a connection that returned rows is open, and is as it is
  itself : (h : Held S) (given : List Row) → HasGiven g text params h given → IsUnchanged (state g h) (state g h)
  unfolding HasGiven
  itself h given it = (
    record { was_open = it.0.is_open; is_open = it.0.is_open; now_is = refl; committed_is = refl; mode = refl },
    record { changes = refl; last_rowid = refl },
    refl,
  )

  -- a query without WITH can always end
  ends : (v : Version) (h : Held S) → IsSchemaOf v h.schema → (c : Compiled) (db : Database) (it : IsStatement (state g h) text params c)
      → IsSourceOf (reads_listing h.schema text) (state g h).now db → EndsIn c.command db (timed params c.formats it.now)
  ends v h schema c db it source =
      let known : c.command ≡ select q names = ap command_of (sym it.is ∙ ap (λ s. understood s text) schema.is) ∙ (m v schema.extra).is in
      subst (λ k. EndsIn k db (timed params c.formats it.now)) (sym known) tt

  -- the rows that were returned start an answer
  begin_answer : (v : Version) (h : Held S) (given : List Row) → IsSchemaOf v h.schema → HasGiven g text params h given
      → (tail : List Row) × IsAnswer q (overlay (state g h).now.trees []) params (given ++ tail)
  begin_answer v h given schema it =
      let s = state g h in
      let got = begins_shown text params s s given (given_begin g text params h given it) (itself h given it) (ends v h schema) in
      (got.0, (whole_answer text q names (m v) params s s (λ _. schema) (given ++ got.0) got.1).1)

  -- the rows that remain of a query that has started are its only answer
  pub starts : (v : Version) (old new : Held S) (later : List Row) → (IsTrue (state g old).is_open → IsSchemaOf v old.schema) → HasBegun g text params old new
      → (IsTrue (state g old).is_open → (rows : List Row) → IsAnswer q (overlay (state g old).now.trees []) params rows → rows ≡ later)
      → RunsOn g text q params new later
  starts v old new later schema (inl begun) one =
      let live = begun.1.0.was_open in record {
        version = v;
        schema = subst (λ (d : Database). IsSchemaOf v d.schema) (sym begun.1.0.now_is) (schema live);
        given = [];
        gave = begun.0;
        whole = λ rows answer. one live rows (subst (λ (d : Database). IsAnswer q (overlay d.trees []) params rows) begun.1.0.now_is answer);
      }
  starts v old new later schema (inr h) one = absurd (never_returns (understood old.schema text) (understood_bare text (m Two []).selects old.schema) h.0)

  -- the start of a query changes nothing
  begun_same : (old new : Held S) → HasBegun g text params old new → IsUnchanged (state g old) (state g new)
  begun_same old new (inl begun) = begun.1
  begun_same old new (inr h) = absurd (never_returns (understood old.schema text) (understood_bare text (m Two []).selects old.schema) h.0)

  -- one more row is the first that remained
  steps : (old new : Held S) (later : List Row) (row : Row) → RunsOn g text q params old later → Advances g old new (Some row)
      → IsUnchanged (state g old) (state g new) → (more : List Row) × (later ≡ row ∷ more) × RunsOn g text q params new more
  steps old new later row runs advances same =
      let now = same.0.now_is in
      let schema : IsSchemaOf runs.version new.schema = subst (λ (d : Database). IsSchemaOf runs.version d.schema) (sym now) runs.schema in
      let gave = advances text params runs.given runs.gave in
      let it = begin_answer runs.version new (runs.given ++ row ∷ []) schema gave in
      let more = it.0 in
      let before = λ (rows : List Row) (a : IsAnswer q (overlay (state g new).now.trees []) params rows).
      runs.whole rows (subst (λ (d : Database). IsAnswer q (overlay d.trees []) params rows) now a) in
      let all : runs.given ++ (row ∷ more) ≡ runs.given ++ later
      = sym (append_assoc runs.given (row ∷ []) more) ∙ before ((runs.given ++ row ∷ []) ++ more) it.1 in
      let first : later ≡ row ∷ more = sym (same_rest runs.given (row ∷ more) later all) in (
        more,
        first,
        record {
          version = runs.version;
          schema = schema;
          given = runs.given ++ row ∷ [];
          gave = gave;
          whole = λ rows a. before rows a ∙ ap (λ l. runs.given ++ l) first ∙ sym (append_assoc runs.given (row ∷ []) more);
        },
      )

  -- if the answer ends, no row remained
  stops : (old new : Held S) (later : List Row) → RunsOn g text q params old later → Advances g old new None → later ≡ []
  stops old new later runs advances =
      let shown = advances text params runs.given runs.gave in
      let answer = (whole_answer text q names (m runs.version) params (state g old) (state g new) (λ _. runs.schema) runs.given shown).1 in
      nothing_behind runs.given later (runs.whole runs.given answer)

-- the query has a current row, or none
stands_at : {S : Type 0} (h : Held S) (has : Bool) (row : Row) → row_if has h ≡ Some row → has ≡ true
stands_at h true row e = refl
stands_at h false row e = absurd (cc)

none_there : {S : Type 0} (h : Held S) (has : Bool) → row_if has h ≡ None → has ≡ false
none_there h true e = absurd (cc)
none_there h false e = refl

-- each answer of the statement is the list
abbrev pub IsOnlyAnswer : {I X : Type 0} → Listing I X → I → Row → (Tables → List X → Type 0) → State → Type 0
IsOnlyAnswer {X = X} list s params IsList seen =
    (v : Version) (t : Tables) → SeesIn v seen t → (later : List X) → IsList t later
    → (rows : List Row) → IsAnswer (list.query s) (overlay seen.now.trees []) params rows → rows ≡ map list.shows later

-- what the store makes of a list's statements
pub record IsMeant {I X : Type 0} (list : Listing I X) : Type 0 where
  pub names : List (List ℕ)
  pub means : (s : I) → MeansEach (list.text s) (list.query s) names
  pub sure : (s : I) → IsSure (list.query s)

module _ {I X S : Type 0} {list : Listing I X} (m : IsMeant list) (g : Ghosts S) where
  -- a statement was run: its rows were started, or nothing has changed, for a reason
  pub handed : (s : I) {given params : Row} {IsList : Tables → List X → Type 0} (conn : MutBor (Held S)) (last : Held S) (r : Result (Rows S g) Error)
      → ((v : Version) → Takes v (list.text s) (list.query s) params) → IsOnlyAnswer list s params IsList (state g conn.now)
      → OnErr r (IsRefused g (list.text s) given conn.now r last)
      → IfOk r (λ it. it.conn.ghost_name ≡ conn.ghost_name)
      → IfOk r (λ it. HasCleanDisk (state g it.conn.now) → HasBegun g (list.text s) given conn.now it.conn.now)
      → IfOk r (λ it. conn.now.in_transaction ≡ false → it.conn.now.in_transaction ≡ false)
      → IfOk r (λ it. Survives (state g conn.now) (state g it.conn.now) (CommitsShowing (list.text s) given (state g conn.now)))
      → given ≡ params
      → OnErr r (IsNotBegun g r conn.now last) × IfOk r (λ it. StartsOver g conn it IsList (RestsOf list g))
  handed s {given} conn last (Err e) takes only refused reference begun mode survives same = (
    not_begun_sure g (m.sure s) (m.means s) (λ v. subst (Takes v (list.text s) (list.query s)) (sym same) (takes v)) conn.now last (Err e) refused,
    tt,
  )
  handed s {given} {params} conn last (Ok it) takes only refused reference begun mode survives same = (
    tt,
    record {
      same_reference = reference;
      starts = record {
        begun = λ clean v t sees later is. (
          s,
          inl (
            params,
            starts g (list.text s) (list.query s) m.names (m.means s) params v conn.now it.conn.now (map list.shows later)
                (λ live. (sees live).schema) (subst (λ p. HasBegun g (list.text s) p conn.now it.conn.now) same (begun clean))
                (λ live. only v t (sees live) later is),
          ),
        );
        same = λ clean. begun_same g (list.text s) (list.query s) m.names (m.means s) given conn.now it.conn.now (begun clean);
        mode = mode;
        survives = leaves_no_more (list.text s) (m.means s Two []).selects given (state g conn.now) (state g it.conn.now) survives;
      };
    },
  )

  module _ (old new : Held S) (has : Bool) (advances : Advances g old new (row_if has new)) where
    -- the current row of the query is the first that remained
    pub hands_row : (row : Row) (found : Option X) → row_if has new ≡ Some row → IsUnchanged (state g old) (state g new)
        → (IsEnded old → has ≡ false) → ((x : X) → row ≡ list.shows x → found ≡ Some x)
        → Hands (RestsOf list g old) (RestsOf list g new) found
    hands_row row found stands same ended back later (s, inr over) =
        absurd (let no : true ≡ false = sym (stands_at new has row stands) ∙ ended over.0 in cc)
    hands_row row found stands same ended back later (s, inl runs) =
        let it = steps g (list.text s) (list.query s) m.names (m.means s) runs.0 old new (map list.shows later) row runs.1
        (subst (Advances g old new) stands advances) same in
        go later it.0 it.1 it.2
      where
        go : (later : List X) (more : List Row) → map list.shows later ≡ row ∷ more → RunsOn g (list.text s) (list.query s) runs.0 new more
            → HandsFirst (RestsOf list g new) found later
        go [] more e rest = absurd (cc)
        go (x ∷ later) more e rest =
            let both : list.shows x ∷ map list.shows later ≡ row ∷ more = e in
            let first : row ≡ list.shows x = cc in
            let others : more ≡ map list.shows later = cc in
            (back x first, (s, inl (runs.0, subst (RunsOn g (list.text s) (list.query s) runs.0 new) others rest)))

    -- if the query has no current row, none remained
    pub hands_none : row_if has new ≡ None → (has ≡ false → IsEnded new) → Hands (RestsOf list g old) (RestsOf list g new) None
    hands_none none over later (s, rests) = go later (empty rests)
      where
        empty : Rests g (list.text s) (list.query s) old (map list.shows later) → map list.shows later ≡ []
        empty (inl runs) =
            stops g (list.text s) (list.query s) m.names (m.means s) runs.0 old new (map list.shows later) runs.1 (subst (Advances g old new) none advances)
        empty (inr ended) = ended.1

        go : (later : List X) → map list.shows later ≡ [] → HandsFirst (RestsOf list g new) None later
        go [] e = (refl, (s, inr (over (none_there new has none), refl)))
        go (x ∷ later) e = absurd (cc)

    -- it is one of those that remained: if the texts of each can be read, the row is not read only out of memory
    pub read_reason : (row : Row) (e : Error) → row_if has new ≡ Some row → IsUnchanged (state g old) (state g new) → (IsEnded old → has ≡ false)
        → {CanBeRead : X → Type 0} → ((x : X) → row ≡ list.shows x → CanBeRead x → IsMemory e)
        → (later : List X) → RestsOf list g old later → Each CanBeRead later → HasReason (state g old) (state g new) e
    read_reason row e stands same ended reason later (s, inr over) each =
        absurd (let no : true ≡ false = sym (stands_at new has row stands) ∙ ended over.0 in cc)
    read_reason row e stands same ended {CanBeRead} reason later (s, inl runs) each =
        let it = steps g (list.text s) (list.query s) m.names (m.means s) runs.0 old new (map list.shows later) row runs.1
        (subst (Advances g old new) stands advances) same in
        go later it.0 it.1 each
      where
        go : (later : List X) (more : List Row) → map list.shows later ≡ row ∷ more → Each CanBeRead later → HasReason (state g old) (state g new) e
        go [] more e each = absurd (cc)
        go (x ∷ later) more e each =
            let both : list.shows x ∷ map list.shows later ≡ row ∷ more = e in
            let first : row ≡ list.shows x = cc in inl (reason x first (each x (inl refl)))
