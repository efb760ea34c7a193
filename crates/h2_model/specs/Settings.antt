-- The peer's settings, as they hold: RFC 9113 section 6.5.2.
use Rattle.std.specs.Prelude.{ℕ, min, List, [], ◌∷◌, if◌then◌else◌, ◌==◌}
use Rattle.h2_frames.specs.declared.frame.Setting.{Setting}
use Rattle.h2_frames.specs.declared.frame.Frame.TheVariants as frame
use Rattle.h2_model.specs.Log.{Log, Received, Handed}

-- the last value of an identifier
abbrev pub setting_in : ℕ → List Setting → ℕ → ℕ
setting_in key [] before = before
setting_in key (s ∷ list) before = setting_in key list (if s.identifier == key then s.value else before)

abbrev pub setting : ℕ → ℕ → Log → ℕ
setting key initial [] = initial
setting key initial (Received (frame.Settings list) ∷ log) = setting_in key list (setting key initial log)
setting key initial (e ∷ log) = setting key initial log

-- SETTINGS_INITIAL_WINDOW_SIZE
abbrev pub initial_window : Log → ℕ
initial_window log = setting 4 65535 log

-- SETTINGS_MAX_CONCURRENT_STREAMS; where the peer sets none, a number that no count of streams reaches
abbrev pub stream_limit : Log → ℕ
stream_limit log = setting 3 4294967295 log

-- SETTINGS_HEADER_TABLE_SIZE: the least that came, for the encoder's table never grows again
abbrev pub least_in : List Setting → ℕ → ℕ
least_in [] n = n
least_in (s ∷ list) n = least_in list (if s.identifier == 1 then min s.value n else n)

abbrev pub table_limit : Log → ℕ
table_limit [] = 4096
table_limit (Received (frame.Settings list) ∷ log) = least_in list (table_limit log)
table_limit (e ∷ log) = table_limit log

-- the table size of which the last block knew
abbrev pub known_limit : Log → ℕ
known_limit [] = 4096
known_limit (Handed (frame.Headers id block last ends) ∷ log) = table_limit log
known_limit (e ∷ log) = known_limit log
