-- The four letter words, which a client sends instead of a connect request. The source is the
-- ZooKeeper Administrator's Guide, "The Four Letter Words". Latencies aren't returned.
use Rattle.std.specs.Prelude.{ℕ, ◌+◌, ◌%◌, ◌^◌, List, [], ◌∷◌, ◌++◌, codes, take, Option, None, Some, if◌then◌else◌}
use Rattle.std.specs.Str.{bytes_eq}
use Rattle.std.specs.FinMap as finite
use Rattle.std.specs.FinSet as sets
use Rattle.std.specs.Fmt.{decimal}
use Rattle.ztree.specs.Counts.{owned_count, data_count}
use Rattle.zconnections.specs.Tables.{sent, closed}
use Rattle.zfront.specs.Front.{FrontView, with_tables}
use Rattle.zfront.specs.declared.word.Word.{Word}
use Rattle.zfront.specs.declared.word.Word.TheVariants.{Ruok, Isro, Envi, Srvr, Mntr}

-- the word at the beginning of these bytes
abbrev pub word_in : List ℕ → Option Word
word_in came =
    if bytes_eq (take 4 came) (codes "ruok") then Some Ruok else
    if bytes_eq (take 4 came) (codes "isro") then Some Isro else
    if bytes_eq (take 4 came) (codes "envi") then Some Envi else
    if bytes_eq (take 4 came) (codes "srvr") then Some Srvr else
    if bytes_eq (take 4 came) (codes "mntr") then Some Mntr else
    None

-- a line of a name and a number
abbrev pub number_line : List ℕ → ℕ → List ℕ
number_line name n = name ++ (decimal n ++ 10 ∷ [])

-- the state of the server for people, one value a line
abbrev pub srvr_text : FrontView → List ℕ
srvr_text v =
    codes "Zookeeper version: jellqupas-0.1.0\n"
    ++ (number_line (codes "Connections: ") (finite.len v.tables.streams)
    ++ (number_line (codes "Zxid: ") ((v.clock.base + v.tree.zxid) % 2 ^ 64)
    ++ (codes "Mode: standalone\n"
    ++ number_line (codes "Node count: ") (finite.len v.tree.nodes))))

-- the same for monitoring; the size of the data counts no names
abbrev pub mntr_text : FrontView → List ℕ
mntr_text v =
    codes "zk_version\tjellqupas-0.1.0\nzk_server_state\tstandalone\n"
    ++ (number_line (codes "zk_num_alive_connections\t") (finite.len v.tables.streams)
    ++ (number_line (codes "zk_global_sessions\t") (finite.len v.tables.attachments)
    ++ (number_line (codes "zk_znode_count\t") (finite.len v.tree.nodes)
    ++ (number_line (codes "zk_watch_count\t") (sets.len v.tables.watches)
    ++ (number_line (codes "zk_ephemerals_count\t") (owned_count v.tree.nodes)
    ++ number_line (codes "zk_approximate_data_size\t") (data_count v.tree.nodes))))))

-- the answer to a word
abbrev pub text_of_word : Word → FrontView → List ℕ
text_of_word Ruok v = codes "imok"
text_of_word Isro v = codes "rw"
text_of_word Envi v = codes "Environment:\nzookeeper.version=3.8.0-jellqupas\n"
text_of_word Srvr v = srvr_text v
text_of_word Mntr v = mntr_text v

-- the answer to a word is sent, and the connection is closed
abbrev pub said : Word → ℕ → FrontView → FrontView
said word c v = with_tables (closed c (sent c (text_of_word word v) v.tables)) v
