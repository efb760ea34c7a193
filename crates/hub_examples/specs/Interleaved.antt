-- Two exchanges on streams 1 and 3; the answer of the second comes first.
use Rattle.std.specs.Prelude.{ℕ, ◌≡◌, List, [], ◌∷◌, ◌++◌, Some, refl, codes, drop, take}
use Rattle.hub_model.specs.HubCalls.{HubCall, Opened}
use Rattle.hub_model.specs.World.{line}
use Rattle.hub_model.specs.Happens.{world}
use Rattle.hub_examples.specs.Hubs.{hub, hub_rules, client_sends, gives_all, on_stream, processor_sends, settings, head, answer, goes_up, kinds}

abbrev two : List HubCall
two = client_sends 2 ∷ client_sends 1 ∷ Opened 2 ∷ Opened 1 ∷ []

first_has_stream_1 : (line 0 (world hub two)).stream ≡ Some 1
unfolding hub_rules
first_has_stream_1 = refl

second_has_stream_3 : (line 1 (world hub two)).stream ≡ Some 3
unfolding hub_rules
second_has_stream_3 = refl

abbrev asked : List HubCall
asked = gives_all hub (on_stream hub two 1 1 ++ on_stream hub two 2 3) two ∷ two

both_asks_were_sent : kinds hub 1 asked ++ kinds hub 2 asked ≡ 0 ∷ 10 ∷ 0 ∷ 10 ∷ []
unfolding hub_rules
both_asks_were_sent = refl

abbrev second_answered : List HubCall
second_answered = processor_sends (settings [] ++ head 3 ++ answer 3) ∷ asked

first_still_waits : kinds hub 1 second_answered ≡ 0 ∷ 10 ∷ []
unfolding hub_rules
first_still_waits = refl

nothing_of_the_first_goes_up : goes_up hub 1 second_answered ≡ []
unfolding hub_rules
nothing_of_the_first_goes_up = refl

second_is_answered : kinds hub 2 second_answered ≡ 0 ∷ 10 ∷ 3 ∷ []
unfolding hub_rules
second_is_answered = refl

second_goes_up : goes_up hub 2 second_answered ≡ codes "GET / HTTP/1.1\r\nhost: a\r\nconnection: close\r\n\r\n"
unfolding hub_rules
second_goes_up = refl

-- in other pieces, and with the first answer behind the second
abbrev both_answered : List HubCall
both_answered =
    processor_sends (drop 5 (answer 3) ++ head 1 ++ answer 1) ∷ processor_sends (settings [] ++ head 3 ++ take 5 (answer 3)) ∷ asked

each_has_its_own : kinds hub 1 both_answered ++ kinds hub 2 both_answered ≡ 0 ∷ 10 ∷ 3 ∷ 0 ∷ 10 ∷ 3 ∷ []
unfolding hub_rules
each_has_its_own = refl
