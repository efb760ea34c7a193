-- The processor's link is lost while one exchange waits for its answer, one has committed its response, and one's stream
-- ended cleanly.
use Rattle.std.specs.Prelude.{ℕ, ◌≡◌, List, [], ◌∷◌, ◌++◌, length, codes, refl}
use Rattle.filter_model.specs.declared.calls.Loss.TheVariants.{Broken}
use Rattle.hub_model.specs.HubCalls.{HubCall, HubConfig, Fed, Opened, PortLost}
use Rattle.hub_model.specs.declared.ports.PortName.TheVariants as port
use Rattle.hub_examples.specs.Hubs.{hub, allowing_hub, hub_rules, client_sends, gives_all, on_stream, processor_sends, settings, frame, head, answer, kinds, fate}

abbrev three : List HubCall
three = client_sends 3 ∷ client_sends 2 ∷ client_sends 1 ∷ Opened 3 ∷ Opened 2 ∷ Opened 1 ∷ []

abbrev asked : HubConfig → List HubCall
asked c = gives_all c (on_stream c three 1 1 ++ on_stream c three 2 3 ++ on_stream c three 3 5) three ∷ three

-- trailers with grpc-status 0, which end the stream
abbrev clean_end : ℕ → List ℕ
clean_end id = frame 1 5 id (0 ∷ 11 ∷ codes "grpc-status" ++ 1 ∷ codes "0")

-- a response whose body isn't whole
abbrev part_of_response : List ℕ
part_of_response = codes "HTTP/1.1 200 OK\r\nContent-Length: 5\r\n\r\nhi"

abbrev before : HubConfig → List HubCall
before c =
    Fed (port.Upstream 2) part_of_response (length part_of_response)
    ∷ processor_sends (settings [] ++ head 3 ++ answer 3 ++ head 5 ++ clean_end 5) ∷ asked c

abbrev lost : HubConfig → List HubCall
lost c = PortLost port.Processor Broken ∷ before c

what_each_met : kinds hub 1 (lost hub) ++ kinds hub 2 (lost hub) ++ kinds hub 3 (lost hub)
    ≡ 0 ∷ 10 ∷ 6 ∷ 0 ∷ 10 ∷ 3 ∷ 0 ∷ 6 ∷ 0 ∷ 10 ∷ 5 ∷ []
unfolding hub_rules
what_each_met = refl

-- a reply, an abort, and nothing
under_deny : fate hub 1 (lost hub) ∷ fate hub 2 (lost hub) ∷ fate hub 3 (lost hub) ∷ [] ≡ 2 ∷ 3 ∷ 0 ∷ []
unfolding hub_rules
under_deny = refl

under_allow : fate allowing_hub 1 (lost allowing_hub) ∷ fate allowing_hub 2 (lost allowing_hub) ∷ fate allowing_hub 3 (lost allowing_hub) ∷ []
    ≡ 0 ∷ 0 ∷ 0 ∷ []
unfolding hub_rules
under_allow = refl
