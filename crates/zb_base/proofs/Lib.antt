mod KeyHalves
