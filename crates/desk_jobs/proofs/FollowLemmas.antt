-- What a job follows from: how its desk came up, and what it answered. For the jobs that act.
use Rattle.std.proofs.Common.{◌≡◌, ℕ, List, [], sym, subst, drop, take, inl, inr, Option, Some, IfSome, option_map, Result, Ok, Err, refl, arith}
use Rattle.std.proofs.lemmas.List.{take-append-drop}
use Rattle.std.specs.Io.KnownBytes.{Keeps}
use Rattle.sqlite.specs.Store.{Ghosts}
use Rattle.sqlite.specs.Held.{Held, state}
use Rattle.sqlite.specs.State.{HasCleanDisk}
use Rattle.desk_sql.specs.declared.versions.Version.TheVariants.{Two}
use Rattle.commands.specs.BatchData.{Batched}
use Rattle.allotment_csv.specs.Files.{batch_of}
use Rattle.allotment_csv.specs.declared.faults.CsvFault.{CsvFault}
use Rattle.ledger.specs.Answer.{State, start}
use Rattle.ledger.specs.World.{Moment, after}
use Rattle.saga_core.specs.Worlds.{StandsAtEnd}
use Rattle.saga_core.specs.Written.{WroteFront}
use Rattle.saga_core.proofs.ByteLemmas.{appends_none, keeps_same}
use Rattle.reports.proofs.FrontLemmas.{front_whole}
use Rattle.sql_model.specs.Keeping.{StoodFor}
use Rattle.sql_model.specs.Standing.{IsDesk}
use Rattle.tables.specs.BookTerms.{StandsBook}
use Rattle.tables.specs.declared.books.TableBook.{TableBook}
use Rattle.desk_jobs.specs.Connections.{MayBeLeft, Represents}
use Rattle.program_ends.specs.Ends.{EndsBadly, IfDone}
use Rattle.program_ends.specs.declared.ends.End.{End}
use Rattle.program_ends.specs.declared.ends.End.TheVariants as finish
use Rattle.desk_jobs.specs.Executions.{EachMayReopen, HasComeUp, HasNotComeUp, LeavesAnswered, StandsAnswered}
use Rattle.desk_jobs.specs.Openings.{File, Input, HasNoExchange, Lines, Nothing, asks_of_file, load_reply}
use Rattle.desk_jobs.specs.Stages.{Answering, LeavesAnswering, Stood}
use Rattle.desk_jobs.proofs.FileLemmas.{file_cut, file_loaded, loaded}
use Rattle.desk_jobs.proofs.StageLemmas.{unasked}
use Rattle.desk_jobs.proofs.ExecutionLemmas.{leaves_answered, leaves_unanswered, stands_answered, stands_found, stands_leaves}
use Rattle.desk_jobs.proofs.KnownLemmas.{if_some_each, if_some_more, of_lines}
use Rattle.desk_jobs.specs.Following.{Follows, FollowsDesk}
use Rattle.desk_jobs.specs.Jobs.{OpensBook}
use Rattle.desk_jobs.specs.Loading.{EndsLoad}
use Rattle.desk_jobs.proofs.EndLemmas.{not_done}
use Rattle.desk_jobs.proofs.RecoveredLemmas.{done_as}

-- what holds in any case holds where all was done
pub if_done : {P : Type 0} (e : End) → P → IfDone e P
if_done e holds = grind arith

-- lines may be unserved
pub lines_unserved : (known : Option (List ℕ)) → IfSome (option_map Lines known) HasNoExchange
lines_unserved known = of_lines known HasNoExchange (if_some_each known _ (λ bytes. tt))

-- the book over a connection stands for what that stood for, in tables of any version
pub book_stands : {S : Type 0} (g : Ghosts S) (old : Held S) (b : TableBook S g) → OpensBook g old b → HasCleanDisk (state g b.conn)
    → (s : State) → IsDesk s → Stood (state g old) s → StandsBook g b s
book_stands g old b opened clean s desk stood =
    opened.stands s (record {
      desk = desk;
      stood = subst (λ v. StoodFor v (state g old) s) (opened.newest clean stood.0 s stood.1) stood.1;
    })

module _ {S : Type 0} (g : Ghosts S) (b : TableBook S g) (new : Held S) (input : Option Input) (held holds : Option (List ℕ))
  where
    -- all was done, or the connection stands for what it came to all the same
    pub stands_follows : (e : End)
        → (HasCleanDisk (state g new) → IfSome input (StandsAnswered g (StandsBook g b) new held holds))
        → FollowsDesk g b new input held holds e
    stands_follows e there = record {
      left = λ clean. if_some_more input _ _ (λ i. stands_leaves g (StandsBook g b) new held holds i clean) (there clean);
      there = λ clean. if_some_more input _ _ (λ i. if_done e) (there clean);
    }

    -- a fault came
    pub leaves_follows : (e : End) → EndsBadly e
        → (HasCleanDisk (state g new) → IfSome input (LeavesAnswered g (StandsBook g b) new held holds))
        → FollowsDesk g b new input held holds e
    leaves_follows e bad left = record { left = left; there = λ clean. if_some_each input _ (λ i. not_done _ e bad) }

    -- and so it is of the connection from which the desk came up
    pub follows_up : EachMayReopen → (old : Held S) → (HasCleanDisk (state g new) → HasComeUp g old (StandsBook g b)) → (e : End)
        → FollowsDesk g b new input held holds e → Follows g old new input held holds e
    follows_up law old up e f = record {
      left = λ clean. if_some_more input _ _
          (λ i. leaves_answered law g old new (StandsBook g b) (up clean) held holds i) (f.left clean);
      there = λ clean. if_some_more input _ _
          (λ i. done_as e (stands_answered law g old new (StandsBook g b) (up clean) held holds i)) (f.there clean);
    }

-- the desk did not come up
pub follows_not_up : {S : Type 0} (g : Ghosts S) (old new : Held S) (input : Option Input) (held : Option (List ℕ)) (e : End)
    → EachMayReopen → (HasCleanDisk (state g new) → HasNotComeUp g old new) → EndsBadly e → IfSome input HasNoExchange
    → Follows g old new input held held e
follows_not_up g old new input held e law left bad unserved = record {
  left = λ clean. if_some_more input _ _ (λ i is. leaves_unanswered law g old new held i is (left clean)) unserved;
  there = λ clean. if_some_each input _ (λ i. not_done _ e bad);
}

-- nothing was asked of a recovered desk
pub follows_unasked : {S : Type 0} (g : Ghosts S) (b : TableBook S g) (new : Held S) (held : Option (List ℕ)) (e : End)
    → ((s : State) → StandsBook g b s → StoodFor Two (state g new) s) → FollowsDesk g b new (Some Nothing) held held e
follows_unasked g b new held e found = stands_follows g b new (Some Nothing) held held e (λ clean w here.
    unasked held held (StandsBook g b) w Nothing [] (Stood (state g new)) refl (refl, refl) here (appends_none held held (keeps_same held))
    (Two, found (after start w) here.stands_there))

-- Loads.

module _ {S : Type 0} (g : Ghosts S) (b : TableBook S g) (new : Held S) (held holds : Option (List ℕ)) (name bytes : List ℕ)
    (clean : HasCleanDisk (state g new)) (w : List Moment) (here : StandsAtEnd (StandsBook g b) w) where
  stood : (s : State) → Represents g new s → Stood (state g new) s
  stood s is = (Two, is.stood)

  -- its batch was carried out, and a prefix of the line of the reply was written
  replied : (batch : Batched) → batch_of name bytes ≡ Ok batch → (IsThere : State → Type 0)
      → WroteFront held holds (load_reply (after start w) batch) → IsThere (loaded (after start w) batch)
      → Answering held holds w (File name bytes) IsThere
  replied batch is IsThere front there =
      let line = load_reply (after start w) batch in
      file_loaded held holds (StandsBook g b) w name bytes here batch is IsThere (take front.0 line) (drop front.0 line)
      (sym (take-append-drop front.0 line)) front.1 there

  -- nothing was carried out
  not_loaded : (IsThere : State → Type 0) → Keeps held holds → IsThere (after start w)
      → Answering held holds w (File name bytes) IsThere
  not_loaded IsThere kept there =
      unasked held holds (StandsBook g b) w (File name bytes) (asks_of_file (batch_of name bytes)) IsThere refl (inl (refl, refl)) here
      (appends_none held holds kept) there

  pub load_leaves : (read : Result Batched CsvFault) → batch_of name bytes ≡ read → (e : End)
      → EndsLoad held holds (Represents g new) (MayBeLeft g new) (after start w) read e
      → LeavesAnswering (state g new).may_leave held holds w (File name bytes)
  load_leaves (Ok batch) is finish.Done ends db may =
      replied batch is _ (front_whole held holds _ ends.1) (stands_found g new _ clean (stood _ ends.2) db may)
  load_leaves (Ok batch) is (finish.Refused why) ends db may =
      replied batch is _ (0, appends_none held holds ends.1) (stands_found g new _ clean (stood _ ends.2) db may)
  load_leaves (Ok batch) is (finish.Fault fault) (inl (kept, there)) db may =
      not_loaded _ kept (stands_found g new _ clean (stood _ there) db may)
  load_leaves (Ok batch) is (finish.Fault fault) (inr (inl (front, there))) db may =
      replied batch is _ front (stands_found g new _ clean (stood _ there) db may)
  load_leaves (Ok batch) is (finish.Fault fault) (inr (inr (kept, left))) db may =
      file_cut held holds (StandsBook g b) w name bytes here batch is (state g new) clean (appends_none held holds kept) left db may
  load_leaves (Ok batch) is (finish.Usage text) ends db may = absurd ends
  load_leaves (Err wrong) is finish.Done ends db may = absurd ends
  load_leaves (Err wrong) is (finish.Refused told) ends db may =
      not_loaded _ ends.1 (stands_found g new _ clean (stood _ ends.2) db may)
  load_leaves (Err wrong) is (finish.Fault fault) ends db may =
      not_loaded _ ends.0 (stands_found g new _ clean (stood _ ends.1) db may)
  load_leaves (Err wrong) is (finish.Usage text) ends db may = absurd ends

  pub load_stands : (read : Result Batched CsvFault) → batch_of name bytes ≡ read
      → EndsLoad held holds (Represents g new) (MayBeLeft g new) (after start w) read finish.Done
      → Answering held holds w (File name bytes) (Stood (state g new))
  load_stands (Ok batch) is ends = replied batch is _ (front_whole held holds _ ends.1) (stood _ ends.2)
  load_stands (Err wrong) is ends = absurd ends

-- a load that came to this
module _ {S : Type 0} (g : Ghosts S) (b : TableBook S g) (new : Held S) (held holds : Option (List ℕ)) (name bytes : List ℕ) where
  load_done : HasCleanDisk (state g new) → (e : End)
      → ((w : List Moment) → StandsAtEnd (StandsBook g b) w
      → EndsLoad held holds (Represents g new) (MayBeLeft g new) (after start w) (batch_of name bytes) e)
      → IfDone e (StandsAnswered g (StandsBook g b) new held holds (File name bytes))
  load_done clean e ends = grind (arith, load_stands, ends)

  pub load_follows : (e : End)
      → (HasCleanDisk (state g new) → (s : State) → StandsBook g b s
      → EndsLoad held holds (Represents g new) (MayBeLeft g new) s (batch_of name bytes) e)
      → FollowsDesk g b new (Some (File name bytes)) held holds e
  load_follows e ends = record {
    left = λ clean w here.
        load_leaves g b new held holds name bytes clean w here (batch_of name bytes) refl e (ends clean _ here.stands_there);
    there = λ clean. load_done clean e (λ w here. ends clean _ here.stands_there);
  }
