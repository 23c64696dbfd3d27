-- The state that a connection represents when it is let go: its limit of steps does not count. For both `into_store`.
use Rattle.std.proofs.Common.{inl, rules, arith, None}
use Rattle.sqlite.specs.Store.{Ghosts}
use Rattle.sqlite.specs.Held.{Held, state}
use Rattle.desk_sql.specs.declared.versions.Version.{Version}
use Rattle.desk_sql.specs.declared.versions.Version.TheVariants.{One, Two}
use Rattle.ledger.specs.Answer.{State}
use Rattle.tables.specs.Keeping.{SeesOf, IsKeptIn, IsFound}
use Rattle.tables.specs.Making.{GivesBack, LetsGo}
use Rattle.tables.specs.declared.books.TableBook.{TableBook}
use Rattle.tables.specs.declared.opening.Opened.{Opened}

module _ {S : Type 0} (g : Ghosts S) (h : Held S) where
  -- the connection without its limit
  abbrev pub unlimited : Held S
  unlimited = record h { step_limit = None }

  still_seen : (v : Version) (s : State) → SeesOf v (state g h) s → SeesOf v (state g unlimited) s
  still_seen v s saw = search (rules, arith)

  -- the state that is kept is found
  kept_found : (v : Version) (s : State) → IsKeptIn v (state g h) s → IsFound v (state g unlimited) s
  kept_found One s kept =
      record { sees = λ live. still_seen One s (kept.sees live); leaves = kept.leaves }
  kept_found Two s kept =
      record { sees = λ live. inl (still_seen Two s (kept.sees live)); leaves = kept.leaves }

-- so it is with the connection of a book, and with that of what was opened
pub lets_go : {S : Type 0} (g : Ghosts S) (b : TableBook S g) → LetsGo g b (unlimited g b.conn)
lets_go g b = search (rules, arith, kept_found)

pub gives_back : {S : Type 0} (g : Ghosts S) (o : Opened S) → GivesBack g o (unlimited g o.conn)
gives_back g o = search (rules, arith, kept_found)
