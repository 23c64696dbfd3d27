-- A command is that of the agent for whom its message is meant. For the law.
use Rattle.std.proofs.Common.{◌≡◌, subst, refl, ℕ, List, [], ◌∷◌, Bool, true, ◌==◌, length, Option, Some, None, codes, option_and_then, arith}
use Rattle.std.proofs.lemmas.Bool.{and_parts, eqb-true}
use Rattle.std.proofs.lemmas.Option.{cond_some, option_and_then_some}
use Rattle.std.proofs.lemmas.Slice.Eq.{bytes_eq-Decides}
use Rattle.allotment.specs.Texts.{keep_if}
use Rattle.commands.specs.Asks.{Asked}
use Rattle.http_messages.specs.Heads.{Parts, is_meant, meant_agents, named_agent, parts_of, values_named}
use Rattle.http_messages.specs.Messages.{Message, NoHead, Asks}
use Rattle.desk_http.specs.Laws.{IsForWhomIsMeant, MeansAsk}
use Rattle.desk_http.specs.declared.doors.Door.{Door}
use Rattle.desk_http.proofs.RequestLemmas.{IsAskOf, command_of}

-- Who asks.

-- what was kept passes the test
kept_passes : (test : List ℕ → Bool) (o : Option (List ℕ)) (a : List ℕ) → option_and_then (keep_if test) o ≡ Some a → test a ≡ true
kept_passes test o a is =
    option_and_then_some (keep_if test) o a is
    (λ x at kept. let passed = cond_some (test x) x a kept in subst (λ z. test z ≡ true) passed.1 passed.0)

-- a request that is meant for the agent of an ask means that ask
means_ask : (values : List (List ℕ)) (ask : Asked) → is_meant values ask.agent ≡ true → MeansAsk values (Some ask)
means_ask [] ask is = tt
means_ask (text ∷ []) ask is = ((bytes_eq-Decides text ask.agent).0 is, refl)
means_ask (text ∷ other ∷ later) ask is = cc

-- nobody is meant where nobody is named
none_meant : (values : List (List ℕ)) (ask : Option Asked) → (length values == 0) ≡ true → MeansAsk values ask
none_meant [] ask is = tt
none_meant (text ∷ later) ask is = absurd (omega (arith, eqb-true (length (text ∷ later)) 0 is))

-- whom the ask of a request means
asks_mean : (parts : Parts) (body : List ℕ) (ask : Option Asked) → IsAskOf parts body ask → MeansAsk (meant_agents parts) ask
asks_mean parts body None unnamed =
    none_meant (meant_agents parts) None
    (and_parts (length (values_named (codes "desk-agent") parts.fields) == 0) (length (meant_agents parts) == 0) unnamed).1
asks_mean parts body (Some ask) is =
    means_ask (meant_agents parts) ask (kept_passes (is_meant (meant_agents parts)) (named_agent parts) ask.agent is.0)

pub for_whom_is_meant : (door : Door) (m : Message) → IsForWhomIsMeant door m
for_whom_is_meant door NoHead = tt
for_whom_is_meant door (Asks h body) = λ asked ask makes.
    asks_mean (parts_of h) body ask (command_of door h body (asked, ask) makes).asks
