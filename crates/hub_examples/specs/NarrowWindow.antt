-- A stream whose sending window is 0 at first: no byte of its ask goes, and the ask counts as sent with its last byte.
use Rattle.std.specs.Prelude.{ℕ, ◌≡◌, List, [], ◌∷◌, ◌++◌, length, take, drop, refl}
use Rattle.h2_model.specs.Calls.{sendable}
use Rattle.hub_model.specs.HubCalls.{HubCall, HandsHead, HandsData, Opened}
use Rattle.hub_model.specs.World.{line}
use Rattle.hub_model.specs.Sending.{asks_of}
use Rattle.hub_model.specs.Happens.{world}
use Rattle.hub_examples.specs.Hubs.{hub, hub_rules, client_sends, gives_all, processor_sends, settings, frame, kinds}

-- SETTINGS_INITIAL_WINDOW_SIZE is 0
abbrev narrow : List HubCall
narrow = client_sends 1 ∷ Opened 1 ∷ processor_sends (settings (0 ∷ 4 ∷ 0 ∷ 0 ∷ 0 ∷ 0 ∷ [])) ∷ []

abbrev asks : List ℕ
asks = asks_of hub (line 0 (world hub narrow))

nothing_may_go : sendable 1 (length asks) (world hub narrow).session ≡ 0
unfolding hub_rules
nothing_may_go = refl

abbrev head_gone : List HubCall
head_gone = gives_all hub (HandsHead 1 [] ∷ []) narrow ∷ narrow

no_ask_is_sent_with_the_head : kinds hub 1 head_gone ≡ 0 ∷ []
unfolding hub_rules
no_ask_is_sent_with_the_head = refl

-- WINDOW_UPDATE by 7 on stream 1
abbrev widened : List HubCall
widened = processor_sends (frame 8 0 1 (0 ∷ 0 ∷ 0 ∷ 7 ∷ [])) ∷ head_gone

seven_bytes_may_go : sendable 1 (length asks) (world hub widened).session ≡ 7
unfolding hub_rules
seven_bytes_may_go = refl

abbrev begun : List HubCall
begun = gives_all hub (HandsData 1 (take 7 asks) ∷ []) widened ∷ widened

begun_ask_is_not_sent : kinds hub 1 begun ≡ 0 ∷ []
unfolding hub_rules
begun_ask_is_not_sent = refl

abbrev wide : List HubCall
wide = processor_sends (frame 8 0 1 (0 ∷ 0 ∷ 1 ∷ 0 ∷ [])) ∷ begun

abbrev all_gone : List HubCall
all_gone = gives_all hub (HandsData 1 (drop 7 asks) ∷ []) wide ∷ wide

ask_is_sent_with_its_last_byte : kinds hub 1 all_gone ≡ 0 ∷ 10 ∷ []
unfolding hub_rules
ask_is_sent_with_its_last_byte = refl
